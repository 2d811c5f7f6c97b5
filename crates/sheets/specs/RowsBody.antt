-- The body `rows`: the grades and the number of coordinates, then a line for each row.
use Rattle.std.specs.Prelude.{ℕ, ◌-◌, Bool, true, cond, ◌&&◌, List, [], ◌∷◌, length, is_some, Some, None, codes, Option, ◌==◌}
use Rattle.std.specs.List.{slice_get}
use Rattle.std.specs.Option.{unwrap_or}
use Rattle.chains.specs.GradeOrder.{grades_fault, listed}
use Rattle.chains.specs.Letters.{place_of}
use Rattle.points.specs.Points.{eight}
use Rattle.points.specs.declared.Entry.{Entry}
use Rattle.maps.specs.Replies.{listed_answer}
use Rattle.maps.specs.RowsMade.{rows_of}
use Rattle.maps.specs.declared.rows.table.Rows.{Rows}
use Rattle.sheets.specs.Dues.{any_letters, line_ends, named, numbered}
use Rattle.sheets.specs.Lines.{next_line}
use Rattle.sheets.specs.Many.{many_lines}
use Rattle.sheets.specs.Reading.{Reader, ◌>>=◌, ◌>>◌, give, refuse}
use Rattle.sheets.specs.declared.faults.Fault.TheVariants.{Form, Grade, Repeated}
use Rattle.sheets.specs.declared.rows.Head.{Head}

-- a rows map as a body tells it
pub record Table : Type 0 where
  -- its grades, low first
  pub letters : List ℕ
  pub dims : ℕ
  pub rows : List Entry

abbrev pub table_of : Rows → Table
table_of m = record { letters = listed m.grades; dims = m.dims; rows = rows_of m }

-- each letter is a grade
abbrev pub all_listed : List ℕ → List ℕ → Bool
all_listed letters [] = true
all_listed letters (x ∷ text) = is_some (place_of letters x) && all_listed letters text

-- the rank of a letter, 0 in an unused coordinate
abbrev pub rank_at : List ℕ → Option ℕ → ℕ
rank_at letters None = 0
rank_at letters (Some x) = unwrap_or (place_of letters x) 0

-- the point whose ranks are those of the letters of a word
abbrev pub point_of : List ℕ → List ℕ → List ℕ
point_of letters text = eight (λ i. rank_at letters (slice_get text i))

abbrev pub ranks_of : List ℕ → List ℕ → Option (List ℕ)
ranks_of letters text = cond (all_listed letters text) (Some (point_of letters text)) None

abbrev pub if_listed : Option (List ℕ) → Reader (List ℕ)
if_listed None = refuse Grade
if_listed (Some point) = give point

-- a point of so many letters, each of them a grade
unfoldable pub point_due : List ℕ → ℕ → Reader (List ℕ)
point_due letters dims =
    any_letters >>= λ text. cond (length text == dims) (if_listed (ranks_of letters text)) (refuse Form)

-- one to eight different letters
unfoldable pub grades_due : Reader (List ℕ)
grades_due = any_letters >>= λ letters. cond (is_some (grades_fault letters)) (refuse Grade) (give letters)

unfoldable pub grades_line : Reader (List ℕ × ℕ)
grades_line = do
  next_line
  named (codes "grades") Form
  letters ← grades_due
  dims ← numbered 1 4
  line_ends
  give (letters, dims)

abbrev pub head_of : Head → List ℕ × ℕ
head_of h = (listed h.grades, h.dims)

-- a point that no row before this one lists
unfoldable pub new_point : List Entry → List ℕ → Reader (Unit {0})
new_point rows point = cond (is_some (listed_answer rows point)) (refuse Repeated) (give tt)

-- a point and its answer
unfoldable pub row_line : List ℕ → ℕ → List Entry → Reader Entry
row_line letters dims rows = do
  next_line
  named (codes "row") Form
  point ← point_due letters dims
  new_point rows point
  answer ← point_due letters dims
  line_ends
  give (record { point = point; answer = answer })

-- the first of these lines tells the grades
unfoldable pub rows_body : ℕ → Reader Table
rows_body lines = do
  head ← grades_line
  rows ← many_lines (row_line head.0 head.1) (lines - 1)
  give (record { letters = head.0; dims = head.1; rows = rows })
