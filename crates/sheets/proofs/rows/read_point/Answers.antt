use Rattle.std.proofs.Common.{◌∙◌}
use Rattle.sheets.proofs.RowRead.{pointed}
use Rattle.sheets.proofs.rows.read_point.Goals as goal

pub returns-clause-point : goal.returns-clause-point
returns-clause-point c =
    rw c.ok_or.ensures.value (pointed c.args.rows.now.grades c.in_ok-text.text.now c.args.rows.now.dims c.ranks_of.result c.bad-2.result (c.if-text-dims.false ∙ c.dims.ensures) c.ranks_of.ensures)
