-- How a reply table is made, row by row, and what it means as a map.
use Rattle.std.specs.Prelude.{◌≡◌, ℕ, true, false, cond, not, List, [], ◌∷◌, ◌++◌, is_some, Some, None, Ok, Err, vec_items, Option, Result}
use Rattle.chains.specs.Order.{Order}
use Rattle.chains.specs.GradeOrder.{grade_order}
use Rattle.chains.specs.TickOrder.{within}
use Rattle.chains.specs.declared.grades.letters.Grades.{Grades}
use Rattle.points.specs.Points.{is_point}
use Rattle.points.specs.declared.Entry.{Entry}
use Rattle.maps.specs.Replies.{listed_answer, row_meaning, row_sizes}
use Rattle.maps.specs.Rules.{Rules}
use Rattle.chains.specs.Through.{through}
use Rattle.maps.specs.declared.rows.faults.RowFault.{RowFault}
use Rattle.maps.specs.declared.rows.faults.RowFault.TheVariants.{Point, Answer, Repeated, Memory}
use Rattle.maps.specs.declared.rows.faults.RowsFault.{RowsFault}
use Rattle.maps.specs.declared.rows.faults.RowsFault.TheVariants.{Dims, Memory as TableMemory}
use Rattle.maps.specs.declared.rows.table.Rows.{Rows}

-- its sizes and its rows, as listed
abbrev pub sizes_of : Rows → List ℕ
sizes_of m = row_sizes m.dims m.grades.count

abbrev pub rows_of : Rows → List Entry
rows_of m = vec_items m.rows

abbrev pub row_order : Order Rows ℕ
row_order = through (λ m. m.grades) grade_order

-- putting a question changes nothing
abbrev pub row_rules : Rules Rows
row_rules = record {
  dims = λ m. m.dims;
  sizes = sizes_of;
  meaning = λ m. row_meaning (sizes_of m) (rows_of m);
  puts = λ m q n. n ≡ m;
}

-- a table of no rows is made exactly over 1 to 4 coordinates, unless memory is wanting
abbrev pub RowsMade : Grades → ℕ → Result Rows RowsFault → Type 0
RowsMade grades dims (Ok m) = (within 1 4 dims ≡ true) × (m.grades ≡ grades) × (m.dims ≡ dims) × (rows_of m ≡ [])
RowsMade grades dims (Err Dims) = within 1 4 dims ≡ false
RowsMade grades dims (Err TableMemory) = within 1 4 dims ≡ true

-- what is wrong with one more row: it lists a point, with an answer that is one, and no point twice
abbrev pub row_fault : List ℕ → List Entry → Entry → Option RowFault
row_fault sizes rows row =
    cond (not (is_point sizes row.point)) (Some Point)
    (cond (not (is_point sizes row.answer)) (Some Answer)
    (cond (is_some (listed_answer rows row.point)) (Some Repeated) None))

-- a row is refused by its fault, or for want of memory if it has none
abbrev pub RefusedBy : Option RowFault → RowFault → Type 0
RefusedBy fault Point = fault ≡ Some Point
RefusedBy fault Answer = fault ≡ Some Answer
RefusedBy fault Repeated = fault ≡ Some Repeated
RefusedBy fault Memory = fault ≡ None

-- the table m, with these rows, is now n
pub record Holds (m n : Rows) (listed : List Entry) : Type 0 where
  pub grades : n.grades ≡ m.grades
  pub dims : n.dims ≡ m.dims
  pub rows : rows_of n ≡ listed

-- one more row is listed after the others exactly where it has no fault and memory suffices; a refusal changes nothing
abbrev pub RowAdded : Rows → Entry → Result (Unit {0}) RowFault → Rows → Type 0
RowAdded m row (Ok tt) n = (row_fault (sizes_of m) (rows_of m) row ≡ None) × Holds m n (rows_of m ++ row ∷ [])
RowAdded m row (Err f) n = RefusedBy (row_fault (sizes_of m) (rows_of m) row) f × Holds m n (rows_of m)
