use Rattle.std.proofs.Common.{◌≡◌, ◌-◌}
use Rattle.chains.specs.GradeOrder.{listed}
use Rattle.maps.specs.RowsMade.{rows_of}
use Rattle.sheets.specs.Many.{more_lines}
use Rattle.sheets.specs.Reading.{state_of}
use Rattle.sheets.specs.RowsBody.{row_line}
use Rattle.sheets.proofs.rows.row_lines.Given as goal

abbrev pub invariant-loop : goal.invariant-loop
invariant-loop l =
    (more_lines (row_line (listed l.initial.rows.grades) l.initial.rows.dims) (l.count - l.counter) (rows_of l.rows) (state_of l.scanner)
    ≡ more_lines (row_line (listed l.initial.rows.grades) l.initial.rows.dims) l.count (rows_of l.initial.rows) (state_of l.initial.scanner))
    × (l.rows.grades ≡ l.initial.rows.grades) × (l.rows.dims ≡ l.initial.rows.dims)
