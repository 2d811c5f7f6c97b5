use Rattle.std.proofs.Common.{◌+◌, ◌-◌, [], ◌∷◌, ◌++◌, sym, ap, ◌∙◌, arith, rules}
use Rattle.chains.specs.GradeOrder.{listed}
use Rattle.maps.specs.RowsMade.{rows_of}
use Rattle.sheets.specs.Many.{more_lines}
use Rattle.sheets.specs.Reading.{state_of}
use Rattle.sheets.specs.RowsBody.{row_line}
use Rattle.sheets.specs.declared.faults.Unread.TheVariants.{Memory}
use Rattle.sheets.proofs.ManyLines.{more_ends, more_goes, more_stops}
use Rattle.sheets.proofs.Readings.{like, like_or, passed_on_or, told_or}
use Rattle.sheets.proofs.RowRead.{added, line_as}
use Rattle.sheets.proofs.rows.row_lines.Goals as goal

pub returns-in_err-row-clause-read : goal.returns-in_err-row-clause-read
returns-in_err-row-clause-read c =
    let kind = row_line (listed c.args.rows.grades) c.args.rows.dims in
    let inv = c.loop.invariant in
    let s = state_of c.loop.scanner in
    let alike = line_as c.loop.rows.grades c.args.rows.grades c.loop.rows.dims c.args.rows.dims (rows_of c.loop.rows) s inv.1 inv.2 in
    let e = c.in_err-row.field-0.0 in
    let told = told_or _ e (like _ _ e (sym alike) c.in_err-row.ensures.read) in
    passed_on_or _ _ _ _ _ c.from_residual.ensures.1
    (like_or _ _ e (sym inv.0) (more_stops kind c.args.count c.loop.counter (rows_of c.loop.rows) s (search rules) e told))

pub loop-preserved : goal.loop-preserved
loop-preserved c =
    let kind = row_line (listed c.args.rows.grades) c.args.rows.dims in
    let inv = c.loop.invariant in
    let s = state_of c.loop.scanner in
    let s' = state_of c.row_line.new.scanner in
    let row = c.in_ok-row.row in
    let before = rows_of c.loop.rows in
    let alike = line_as c.loop.rows.grades c.args.rows.grades c.loop.rows.dims c.args.rows.dims before s inv.1 inv.2 in
    let same = c.row_line.ensures.same in
    let held = added c.row_line.new.rows row c.list.result c.list.new.self c.in_ok-or.field-0 Memory c.list.ensures c.in_ok-or.ensures in (
      ap (λ rows. more_lines kind (c.args.count - (c.loop.counter + 1)) rows s') (held.rows ∙ ap (λ m. rows_of m ++ row ∷ []) same)
          ∙ sym (more_goes kind c.args.count c.loop.counter before s (search rules) row s' (sym alike ∙ c.in_ok-row.ensures.read))
          ∙ inv.0,
      held.grades ∙ ap (λ m. m.grades) same ∙ inv.1,
      held.dims ∙ ap (λ m. m.dims) same ∙ inv.2,
    )

pub returns : goal.returns
returns c =
    let inv = c.loop.invariant in record {
      read = sym inv.0 ∙ more_ends (row_line (listed c.args.rows.grades) c.args.rows.dims) c.args.count c.loop.counter (rows_of c.loop.rows) (state_of c.loop.scanner) (omega arith);
      kept = (inv.1, inv.2);
    }
