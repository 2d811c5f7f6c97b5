use Rattle.std.proofs.Common.{◌≡◌, drop}
use Rattle.std.specs.List.{slice_get}
use Rattle.chains.specs.GradeOrder.{listed}
use Rattle.points.proofs.Filled.{Filled}
use Rattle.sheets.specs.RowsBody.{all_listed, rank_at}
use Rattle.sheets.proofs.rows.ranks_of.Given as goal

abbrev pub invariant-loop-i : goal.invariant-loop-i
invariant-loop-i l =
    Filled (λ i. rank_at (listed l.rows.grades) (slice_get l.text i)) 0 l.i l.ranks
    × (all_listed (listed l.rows.grades) (drop l.i l.text) ≡ all_listed (listed l.rows.grades) l.text)
