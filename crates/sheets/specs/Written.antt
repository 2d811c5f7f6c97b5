-- How a sheet is written, so that a sheet that is written is read again.
use Rattle.std.specs.Prelude.{◌≡◌, ℕ, suc, ◌≤◌, true, false, List, [], ◌∷◌, ◌++◌, map, length, take, is_some, Some, Ok, Err, codes, decimal, Result, slice_index}
use Rattle.std.specs.List.{AllByRecursion}
use Rattle.chains.specs.Letters.{capitals, different, is_capital}
use Rattle.chains.specs.TickOrder.{within}
use Rattle.points.specs.Points.{is_point}
use Rattle.points.specs.declared.Entry.{Entry}
use Rattle.maps.specs.JobRanges.{marks}
use Rattle.maps.specs.Replies.{listed_answer, row_sizes}
use Rattle.maps.specs.declared.jobs.job.Lock.{Lock}
use Rattle.maps.specs.declared.jobs.job.Lock.TheVariants.{Free, Inherit, Plain}
use Rattle.sheets.specs.CallsBody.{Asked, Planned, asks, lowers, raises, searches}
use Rattle.sheets.specs.JobsBody.{Panel, Terms}
use Rattle.sheets.specs.RowsBody.{Table}
use Rattle.sheets.specs.Sheets.{Meant, meant_by, on_jobs, on_rows}
use Rattle.sheets.specs.declared.faults.Unread.{Unread}
use Rattle.sheets.specs.declared.faults.Unread.TheVariants.{Bad, Memory}
use Rattle.sheets.specs.declared.sheet.Sheet.{Sheet}

-- words with one blank between each two
abbrev pub spaced : List (List ℕ) → List ℕ
spaced [] = []
spaced (w ∷ []) = w
spaced (w ∷ v ∷ ws) = w ++ 32 ∷ spaced (v ∷ ws)

-- a line of these words, then more
abbrev pub line_then : List (List ℕ) → List ℕ → List ℕ
line_then words more = spaced words ++ 10 ∷ more

-- a line for each of these, then more
abbrev pub lines_then : {X : Type 0} → (X → List (List ℕ)) → List X → List ℕ → List ℕ
lines_then words [] more = more
lines_then words (x ∷ xs) more = line_then (words x) (lines_then words xs more)

abbrev pub mark_of_lock : Lock → ℕ
mark_of_lock Free = 45
mark_of_lock Inherit = 104
mark_of_lock Plain = 112

abbrev pub job_words : Terms → List (List ℕ)
job_words t = codes "job" ∷ decimal t.run ∷ decimal t.period ∷ decimal t.limit ∷ decimal t.hold ∷ (mark_of_lock t.lock ∷ []) ∷ []

-- a call, its values written as the map writes them
abbrev pub call_words : {V : Type 0} → (V → List ℕ) → Asked V → List (List ℕ)
call_words value (asks vs) = codes "ask" ∷ map value vs
call_words value (raises vs) = codes "raise" ∷ map value vs
call_words value (lowers vs) = codes "lower" ∷ map value vs
call_words value searches = codes "search" ∷ []

-- the lines of the calls
abbrev pub calls_then : {V : Type 0} → (V → List ℕ) → Planned V → List ℕ
calls_then value plan = line_then (codes "allow" ∷ decimal plan.allow ∷ []) (lines_then (call_words value) plan.calls [])

abbrev pub written_jobs : Panel → Planned ℕ → List ℕ
written_jobs panel plan =
    line_then (codes "bodies" ∷ decimal 2 ∷ [])
    (line_then (codes "jobs" ∷ decimal (suc (length panel.jobs)) ∷ [])
    (line_then (codes "calls" ∷ decimal (suc (length plan.calls)) ∷ [])
    (line_then (codes "step" ∷ decimal panel.step ∷ [])
    (lines_then job_words panel.jobs (calls_then decimal plan)))))

-- the rules that a written panel keeps
pub record ProperJob (t : Terms) : Type 0 where
  pub run : within 1 1000000 t.run ≡ true
  pub period : within 1 1000000 t.period ≡ true
  pub limit : within 1 t.period t.limit ≡ true
  pub hold : within 0 t.run t.hold ≡ true
  pub mark : marks (Some t.lock) t.hold ≡ true

-- up to eight values, each of which may be written
abbrev pub ProperCall : {V : Type 0} → (V → Type 0) → Asked V → Type 0
ProperCall Fits (asks vs) = (length vs ≤ 8) × AllByRecursion Fits vs
ProperCall Fits (raises vs) = (length vs ≤ 8) × AllByRecursion Fits vs
ProperCall Fits (lowers vs) = (length vs ≤ 8) × AllByRecursion Fits vs
ProperCall Fits searches = Unit {0}

pub record ProperPlan {V : Type 0} (Fits : V → Type 0) (plan : Planned V) : Type 0 where
  pub allow : within 0 9999999 plan.allow ≡ true
  pub count : within 1 200 (suc (length plan.calls)) ≡ true
  pub calls : AllByRecursion (ProperCall Fits) plan.calls

pub record ProperPanel (panel : Panel) : Type 0 where
  pub step : within 1 1000 panel.step ≡ true
  pub count : within 2 9 (suc (length panel.jobs)) ≡ true
  pub jobs : AllByRecursion ProperJob panel.jobs

-- a value of a jobs map that a file can write
abbrev pub TickFits : ℕ → Type 0
TickFits n = within 0 4294967295 n ≡ true

-- the letters of the first so many ranks
abbrev pub letters_at : List ℕ → ℕ → List ℕ → List ℕ
letters_at letters dims ranks = map (λ r. slice_index letters r) (take dims ranks)

abbrev pub row_words : List ℕ → ℕ → Entry → List (List ℕ)
row_words letters dims row = codes "row" ∷ letters_at letters dims row.point ∷ letters_at letters dims row.answer ∷ []

abbrev pub letter_word : ℕ → List ℕ
letter_word letter = letter ∷ []

abbrev pub written_rows : Table → Planned ℕ → List ℕ
written_rows table plan =
    line_then (codes "bodies" ∷ decimal 2 ∷ [])
    (line_then (codes "rows" ∷ decimal (suc (length table.rows)) ∷ [])
    (line_then (codes "calls" ∷ decimal (suc (length plan.calls)) ∷ [])
    (line_then (codes "grades" ∷ table.letters ∷ decimal table.dims ∷ [])
    (lines_then (row_words table.letters table.dims) table.rows (calls_then letter_word plan)))))

-- a row lists a point with an answer that is one
abbrev pub ProperRow : List ℕ → Entry → Type 0
ProperRow sizes row = (is_point sizes row.point ≡ true) × (is_point sizes row.answer ≡ true)

-- no row lists a point that a row before it lists
abbrev pub Fresh : List Entry → List Entry → Type 0
Fresh before [] = Unit {0}
Fresh before (row ∷ rows) = (false ≡ is_some (listed_answer before row.point)) × Fresh (before ++ row ∷ []) rows

pub record ProperTable (table : Table) : Type 0 where
  pub some : 1 ≤ length table.letters
  pub most : length table.letters ≤ 8
  pub capital : capitals table.letters ≡ true
  pub distinct : different table.letters ≡ true
  pub dims : within 1 4 table.dims ≡ true
  pub count : within 1 4097 (suc (length table.rows)) ≡ true
  pub rows : AllByRecursion (ProperRow (row_sizes table.dims (length table.letters))) table.rows
  pub fresh : Fresh [] table.rows

-- a value of a rows map that a file can write
abbrev pub LetterFits : ℕ → Type 0
LetterFits letter = is_capital letter ≡ true

-- it is that sheet, unless memory was wanting
abbrev pub ReadAs : Meant → Result Sheet Unread → Type 0
ReadAs m (Ok s) = meant_by s ≡ m
ReadAs m (Err (Bad fault line)) = ⊥
ReadAs m (Err Memory) = Unit {0}

-- a jobs sheet that is written by the rules, within the size of a file, is read as that sheet
abbrev pub JobsReadBack : List ℕ → Result Sheet Unread → Type 0
JobsReadBack bytes r =
    (panel : Panel) (plan : Planned ℕ) → ProperPanel panel → ProperPlan TickFits plan → length bytes ≤ 65536 → bytes ≡ written_jobs panel plan → ReadAs (on_jobs panel plan) r

-- and so is a rows sheet
abbrev pub RowsReadBack : List ℕ → Result Sheet Unread → Type 0
RowsReadBack bytes r =
    (table : Table) (plan : Planned ℕ) → ProperTable table → ProperPlan LetterFits plan → length bytes ≤ 65536 → bytes ≡ written_rows table plan → ReadAs (on_rows table plan) r
