-- Each kind of line, each body and the file count their lines.
use Rattle.std.proofs.Common.{◌≡◌, ℕ, zero, suc, ◌≤◌, Bool, true, false, cond, eqb, ltb, List, [], ◌∷◌, ◌++◌, length, Some, None, Ok, Err, Option, Result, refl, ap, subst, arith}
use Rattle.points.specs.declared.Entry.{Entry}
use Rattle.maps.specs.JobRanges.{lock_of, marks}
use Rattle.maps.specs.declared.jobs.job.Lock.{Lock}
use Rattle.sheets.specs.CallsBody.{call_line, call_named, calls_body, letter_value, line_values, more_values, tick_value}
use Rattle.sheets.specs.Contents.{body_line, body_named, contents}
use Rattle.sheets.specs.JobsBody.{job_line, jobs_body, lock_due, lock_if}
use Rattle.sheets.specs.LinesTold.{ToldWithin, lines_in}
use Rattle.sheets.specs.Reading.{Reader, State, Told, ◌>>=◌, give, refuse}
use Rattle.sheets.specs.RowsBody.{grades_due, grades_line, if_listed, new_point, point_due, row_line, rows_body}
use Rattle.sheets.specs.Sheets.{Meant, Parses, bodies, jobs_sheet, read_file, rows_sheet, sheet, sized, value_of}
use Rattle.sheets.specs.declared.contents.Body.{Body}
use Rattle.sheets.specs.declared.contents.Body.TheVariants.{Jobs, Rows}
use Rattle.sheets.specs.declared.faults.Fault.{Fault}
use Rattle.sheets.specs.declared.faults.Fault.TheVariants.{Form, Grade, Size, Text}
use Rattle.sheets.specs.declared.faults.Unread.{Unread}
use Rattle.sheets.specs.declared.faults.Unread.TheVariants.{Bad, Memory}
use Rattle.sheets.specs.declared.sheet.Sheet.{Sheet}
use Rattle.sheets.proofs.Counting.{Counting, Counts, counting, bind, choosing, count, giving, refusing}

body_named_counts : (name : List ℕ) → Counting (body_named name)
unfolding body_named
body_named_counts name = search counting depth 8

body_line_counts : Counting body_line
unfolding body_line
body_line_counts = search (counting, body_named_counts) depth 8

contents_counts : Counting contents
unfolding contents
contents_counts = search (counting, body_line_counts) depth 8

lock_if_counts : (o : Option Lock) (hold : ℕ) → Counting (lock_if o hold)
lock_if_counts None hold = refusing Lock Form
lock_if_counts (Some lock) hold = choosing (marks (Some lock) hold) (give lock) (refuse Form) (giving lock) (refusing Lock Form)

lock_counts : (mark hold : ℕ) → Counting (lock_due mark hold)
unfolding lock_due
lock_counts mark hold = lock_if_counts (lock_of mark) hold

job_counts : Counting job_line
unfolding job_line
job_counts = search (counting, lock_counts) depth 12

jobs_counts : (lines : ℕ) → Counting (jobs_body lines)
unfolding jobs_body
jobs_counts lines = search (counting, job_counts) depth 8

grades_counts : Counting grades_due
unfolding grades_due
grades_counts = search counting depth 8

grades_line_counts : Counting grades_line
unfolding grades_line
grades_line_counts = search (counting, grades_counts) depth 8

if_listed_counts : (o : Option (List ℕ)) → Counting (if_listed o)
if_listed_counts None = refusing (List ℕ) Grade
if_listed_counts (Some point) = giving point

point_counts : (letters : List ℕ) (dims : ℕ) → Counting (point_due letters dims)
unfolding point_due
point_counts letters dims = search (counting, if_listed_counts) depth 8

new_counts : (rows : List Entry) (point : List ℕ) → Counting (new_point rows point)
unfolding new_point
new_counts rows point = search counting depth 8

row_counts : (letters : List ℕ) (dims : ℕ) (rows : List Entry) → Counting (row_line letters dims rows)
unfolding row_line
row_counts letters dims rows = search (counting, point_counts, new_counts) depth 10

rows_counts : (lines : ℕ) → Counting (rows_body lines)
unfolding rows_body
rows_counts lines = search (counting, grades_line_counts, row_counts) depth 8

tick_counts : Counting tick_value
unfolding tick_value
tick_counts = search counting

letter_counts : Counting letter_value
unfolding letter_value
letter_counts = search counting depth 8

module _ {V : Type 0} (value : Reader V) (counts : Counting value) where
  more_values_counts : (room : ℕ) (vs : List V) → Counting (more_values value room vs)
  more_values_counts zero vs s = refl
  more_values_counts (suc room) vs s =
      choosing (eqb (length s.left) 0) (give vs) (value >>= λ v. more_values value room (vs ++ v ∷ [])) (giving vs) (bind value _ counts (λ v. more_values_counts room (vs ++ v ∷ []))) s

  line_values_counts : Counting (line_values value)
  unfolding line_values
  line_values_counts = search (counting, more_values_counts) depth 8

  call_named_counts : (name : List ℕ) → Counting (call_named value name)
  unfolding call_named
  call_named_counts name = search (counting, line_values_counts) depth 12

  call_counts : Counting (call_line value)
  unfolding call_line
  call_counts = search (counting, call_named_counts) depth 8

  calls_counts : (lines : ℕ) → Counting (calls_body value lines)
  unfolding calls_body
  calls_counts lines = search (counting, call_counts) depth 8

bodies_counts : (body : Body) (calls : ℕ) → Counting (bodies body calls)
unfolding jobs_sheet rows_sheet
bodies_counts (Jobs lines) calls = search (counting, jobs_counts, calls_counts tick_value tick_counts) depth 8
bodies_counts (Rows lines) calls = search (counting, rows_counts, calls_counts letter_value letter_counts) depth 8

sheet_counts : Counting sheet
unfolding sheet
sheet_counts = bind contents _ contents_counts (λ c. bodies_counts c.body c.calls)

-- the line that a file's fault is told with
within_if : (n : ℕ) (d : Result (Meant × State) Told) (f : Fault) (line : ℕ) → Counts n d → value_of d ≡ Err (f, line) → line ≤ suc n
within_if n (Ok p) f line h e = absurd (cc)
within_if n (Err t) f line h e = let same : ◌≡◌ {A = Fault × ℕ} t (f, line) = cc in subst (λ q. q.1 ≤ suc n) same h

sized_within : (bytes : List ℕ) (f : Fault) (line : ℕ) → sized bytes ≡ Err (f, line) → line ≤ suc (lines_in bytes)
sized_within [] f line e = let same : ◌≡◌ {A = Fault × ℕ} (Text, 1) (f, line) = cc in let one : 1 ≡ line = ap (λ q. q.1) same in omega arith
sized_within (b ∷ bs) f line e =
    let start : State = record { left = []; rest = b ∷ bs; line = 0 } in
    let most = within_if (count start) (sheet start) f line (sheet_counts start) e in
    omega (arith, most)

within_by : (bytes : List ℕ) (f : Fault) (line : ℕ) (b : Bool) → cond b (Err (Size, 0)) (sized bytes) ≡ Err (f, line) → line ≤ suc (lines_in bytes)
within_by bytes f line true e = let same : ◌≡◌ {A = Fault × ℕ} (Size, 0) (f, line) = cc in let none : 0 ≡ line = ap (λ q. q.1) same in omega arith
within_by bytes f line false e = sized_within bytes f line e

file_within : (bytes : List ℕ) (f : Fault) (line : ℕ) → read_file bytes ≡ Err (f, line) → line ≤ suc (lines_in bytes)
unfolding read_file
file_within bytes f line e = within_by bytes f line (ltb 65536 (length bytes)) e

pub told_within : (bytes : List ℕ) (r : Result Sheet Unread) → Parses bytes r → ToldWithin bytes r
told_within bytes (Ok s) h = tt
told_within bytes (Err (Bad f line)) h = file_within bytes f line h
told_within bytes (Err Memory) h = tt
