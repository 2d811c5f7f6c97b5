-- A jobs sheet that is written by the rules is read back.
use Rattle.std.proofs.Common.{◌≡◌, ℕ, suc, ◌+◌, ◌-◌, true, List, [], ◌∷◌, ◌++◌, length, Some, Ok, codes, decimal, Result, refl, arith}
use Rattle.std.specs.List.{AllByRecursion}
use Rattle.chains.specs.TickOrder.{within}
use Rattle.maps.specs.JobRanges.{marks}
use Rattle.maps.specs.declared.jobs.job.Lock.{Lock}
use Rattle.maps.specs.declared.jobs.job.Lock.TheVariants.{Free, Inherit, Plain}
use Rattle.sheets.specs.CallsBody.{Planned, tick_value}
use Rattle.sheets.specs.Contents.{body_line, body_named}
use Rattle.sheets.specs.Forms.{form_of, mark}
use Rattle.sheets.specs.JobsBody.{Panel, Terms, job_line, jobs_body, lock_due}
use Rattle.sheets.specs.Reading.{State}
use Rattle.sheets.specs.Sheets.{Parses, jobs_sheet, on_jobs, sheet}
use Rattle.sheets.specs.Written.{JobsReadBack, ProperJob, ProperPanel, ProperPlan, TickFits, calls_then, job_words, line_then, lines_then, mark_of_lock, written_jobs}
use Rattle.sheets.specs.declared.contents.Body.TheVariants.{Jobs}
use Rattle.sheets.specs.declared.faults.Fault.TheVariants.{Form}
use Rattle.sheets.specs.declared.faults.Unread.{Unread}
use Rattle.sheets.specs.declared.sheet.Sheet.{Sheet}
use Rattle.sheets.proofs.Spaced.{IsWord, written_line}
use Rattle.sheets.proofs.WrittenCalls.{Known, calls_back, known, small}
use Rattle.sheets.proofs.WrittenContents.{contents_back, file_back, read_back}
use Rattle.sheets.proofs.WrittenDues.{Back, any_name_written, at_words, ends_written, lines_written, mark_written, named_written, number_line_written, numbered_written}
use Rattle.sheets.proofs.WrittenForms.{decimal_word}

lock_written : (lock : Lock) (hold : ℕ) (s : State) → marks (Some lock) hold ≡ true → lock_due (mark_of_lock lock) hold s ≡ Ok (lock, s)
unfolding lock_due
lock_written Free hold s h = rw h
lock_written Inherit hold s h = refl
lock_written Plain hold s h = refl

mark_word : (lock : Lock) → IsWord (mark_of_lock lock ∷ [])
mark_word Free = record { some = omega arith; bytes = refl }
mark_word Inherit = record { some = omega arith; bytes = refl }
mark_word Plain = record { some = omega arith; bytes = refl }

mark_form : (lock : Lock) → form_of (mark_of_lock lock ∷ []) ≡ mark (mark_of_lock lock)
mark_form Free = refl
mark_form Inherit = refl
mark_form Plain = refl

job_name : Known (codes "job")
job_name = known (codes "job") (omega arith) refl refl

job_back : (t : Terms) → ProperJob t → (left more : List ℕ) (line : ℕ) → job_line (record { left = left; rest = line_then (job_words t) more; line = line }) ≡ Ok (t, at_words [] more (suc line))
unfolding job_line
job_back t p left more line =
    let run = small 1 1000000 t.run p.run (omega arith) in
    let period = small 1 1000000 t.period p.period (omega arith) in
    let limit = small 1 t.period t.limit p.limit period in
    let hold = small 0 t.run t.hold p.hold run in
    let m = mark_of_lock t.lock in
    let w5 : List (List ℕ) = (m ∷ []) ∷ [] in
    let w4 : List (List ℕ) = decimal t.hold ∷ w5 in
    let w3 : List (List ℕ) = decimal t.limit ∷ w4 in
    let w2 : List (List ℕ) = decimal t.period ∷ w3 in
    let w1 : List (List ℕ) = decimal t.run ∷ w2 in
    rw (written_line (codes "job") w1 left more line (job_name.0, (decimal_word t.run run, (decimal_word t.period period, (decimal_word t.limit limit, (decimal_word t.hold hold, (mark_word t.lock, tt)))))), named_written w1 more (suc line) (codes "job") Form job_name.0 job_name.1, numbered_written w2 more (suc line) 1 1000000 t.run run p.run, numbered_written w3 more (suc line) 1 1000000 t.period period p.period, numbered_written w4 more (suc line) 1 t.period t.limit limit p.limit, numbered_written w5 more (suc line) 0 t.run t.hold hold p.hold, mark_written [] more (suc line) m (mark_word t.lock) (mark_form t.lock), lock_written t.lock t.hold (at_words [] more (suc line)) p.mark, ends_written more (suc line))

jobs_all : (jobs before : List Terms) → AllByRecursion ProperJob jobs → Back (λ _. job_line) job_words before jobs
jobs_all [] before h = tt
jobs_all (t ∷ jobs) before h = (job_back t h.0, jobs_all jobs (before ++ t ∷ []) h.1)

step_name : Known (codes "step")
step_name = known (codes "step") (omega arith) refl refl

jobs_back_lem : (panel : Panel) → ProperPanel panel → (more : List ℕ) (line : ℕ) → jobs_body (suc (length panel.jobs)) (at_words [] (line_then (codes "step" ∷ decimal panel.step ∷ []) (lines_then job_words panel.jobs more)) line) ≡ Ok (panel, at_words [] more (suc line + length panel.jobs))
unfolding jobs_body
jobs_back_lem panel p more line =
    let step = small 1 1000 panel.step p.step (omega arith) in
    let rest : suc (length panel.jobs) - 1 ≡ length panel.jobs = omega arith in
    rw (number_line_written (codes "step") Form 1 1000 panel.step [] (lines_then job_words panel.jobs more) line step_name.0 step_name.1 step p.step, rest, lines_written (λ _. job_line) job_words panel.jobs [] more (suc line) (jobs_all panel.jobs [] p.jobs))

tick_back : (v : ℕ) (ws : List (List ℕ)) (rest : List ℕ) (line : ℕ) → TickFits v → tick_value (at_words (decimal v ∷ ws) rest line) ≡ Ok (v, at_words ws rest line)
unfolding tick_value
tick_back v ws rest line h = numbered_written ws rest line 0 4294967295 v (small 0 4294967295 v h (omega arith)) h

tick_word : (v : ℕ) → TickFits v → IsWord (decimal v)
tick_word v h = decimal_word v (small 0 4294967295 v h (omega arith))

jobs_name : Known (codes "jobs")
jobs_name = known (codes "jobs") (omega arith) refl refl

body_back : (n : ℕ) (more : List ℕ) (line : ℕ) → within 2 9 n ≡ true → body_line (at_words [] (line_then (codes "jobs" ∷ decimal n ∷ []) more) line) ≡ Ok (Jobs n, at_words [] more (suc line))
unfolding body_line body_named
body_back n more line w =
    let few = small 2 9 n w (omega arith) in
    rw (written_line (codes "jobs") (decimal n ∷ []) [] more line (jobs_name.0, (decimal_word n few, tt)), any_name_written (decimal n ∷ []) more (suc line) (codes "jobs") jobs_name.0 jobs_name.1, numbered_written [] more (suc line) 2 9 n few w, ends_written more (suc line))

sheet_back : (panel : Panel) (plan : Planned ℕ) → ProperPanel panel → ProperPlan TickFits plan → (s' : ℕ) × (sheet (at_words [] (written_jobs panel plan) 0) ≡ Ok (on_jobs panel plan, at_words [] [] s'))
unfolding sheet jobs_sheet
sheet_back panel plan p q =
    let n = suc (length panel.jobs) in
    let k = suc (length plan.calls) in
    (suc (4 + length panel.jobs) + length plan.calls, rw (contents_back (codes "jobs") (Jobs n) n k (line_then (codes "step" ∷ decimal panel.step ∷ []) (lines_then job_words panel.jobs (calls_then decimal plan))) (λ rest line. body_back n rest line p.count) q.count, jobs_back_lem panel p (calls_then decimal plan) 3, calls_back tick_value decimal TickFits tick_word tick_back plan q (4 + length panel.jobs), file_back (suc (4 + length panel.jobs) + length plan.calls)))

-- what is written by the rules is read back
pub jobs_read_back : (bytes : List ℕ) (r : Result Sheet Unread) → Parses bytes r → JobsReadBack bytes r
jobs_read_back bytes r h panel plan p q size e = read_back bytes (written_jobs panel plan) (on_jobs panel plan) r h (omega arith) size e (sheet_back panel plan p q)
