use Rattle.sheets.proofs.Ranges.{body_range, line_range}
use Rattle.sheets.proofs.contents.read_contents.Goals as goal

pub returns-clause-ranges : goal.returns-clause-ranges
returns-clause-ranges c = (body_range _ _ _ c.in_ok-body.ensures, line_range _ _ _ _ _ _ _ c.in_ok-calls.ensures)
