-- A whole file: the contents, the body of a map, the body of the calls, and nothing more.
use Rattle.std.specs.Prelude.{◌≡◌, ℕ, cond, List, [], ◌∷◌, length, Ok, Err, Result, nat_lt}
use Rattle.sheets.specs.CallsBody.{Planned, calls_body, letter_value, planned_of, tick_value}
use Rattle.sheets.specs.Contents.{contents}
use Rattle.sheets.specs.JobsBody.{Panel, jobs_body, panel_of}
use Rattle.sheets.specs.Lines.{file_ends}
use Rattle.sheets.specs.Reading.{Reader, State, Told, ◌>>=◌, ◌>>◌, give}
use Rattle.sheets.specs.RowsBody.{Table, rows_body, table_of}
use Rattle.sheets.specs.declared.contents.Body.{Body}
use Rattle.sheets.specs.declared.contents.Body.TheVariants.{Jobs, Rows}
use Rattle.sheets.specs.declared.faults.Fault.TheVariants.{Text, Size}
use Rattle.sheets.specs.declared.faults.Unread.{Unread}
use Rattle.sheets.specs.declared.faults.Unread.TheVariants.{Bad, Memory}
use Rattle.sheets.specs.declared.sheet.Sheet.{Sheet}
use Rattle.sheets.specs.declared.sheet.Sheet.TheVariants.{Jobs as JobsSheet, Rows as RowsSheet}

-- what a file tells: a map and what is asked of it
pub data Meant : Type 0 where
  on_jobs : Panel → Planned ℕ → Meant
  on_rows : Table → Planned ℕ → Meant

abbrev pub meant_by : Sheet → Meant
meant_by (JobsSheet plan) = on_jobs (panel_of plan.map) (planned_of plan)
meant_by (RowsSheet plan) = on_rows (table_of plan.map) (planned_of plan)

-- a sheet of each kind of map, in so many lines, with so many lines of calls
unfoldable pub jobs_sheet : ℕ → ℕ → Reader Meant
jobs_sheet lines calls = do
  panel ← jobs_body lines
  plan ← calls_body tick_value calls
  file_ends
  give (on_jobs panel plan)

unfoldable pub rows_sheet : ℕ → ℕ → Reader Meant
rows_sheet lines calls = do
  table ← rows_body lines
  plan ← calls_body letter_value calls
  file_ends
  give (on_rows table plan)

-- the bodies that the contents tell
abbrev pub bodies : Body → ℕ → Reader Meant
bodies (Jobs lines) calls = jobs_sheet lines calls
bodies (Rows lines) calls = rows_sheet lines calls

unfoldable pub sheet : Reader Meant
sheet = contents >>= λ c. bodies c.body c.calls

-- what was read, when nothing is left
abbrev pub value_of : {X : Type 0} → Result (X × State) Told → Result X Told
value_of (Ok p) = Ok p.0
value_of (Err e) = Err e

abbrev pub sized : List ℕ → Result Meant Told
sized [] = Err (Text, 1)
sized (b ∷ bs) = value_of (sheet (record { left = []; rest = b ∷ bs; line = 0 }))

-- the sheet that the bytes of a file mean, or its fault and the line that has it: of every file exactly one of the two
unfoldable pub read_file : List ℕ → Result Meant Told
read_file bytes = cond (nat_lt 65536 (length bytes)) (Err (Size, 0)) (sized bytes)

-- the parser gives what the file means, or memory was wanting
abbrev pub Parses : List ℕ → Result Sheet Unread → Type 0
Parses bytes (Ok s) = read_file bytes ≡ Ok (meant_by s)
Parses bytes (Err (Bad fault line)) = read_file bytes ≡ Err (fault, line)
Parses bytes (Err Memory) = Unit {0}
