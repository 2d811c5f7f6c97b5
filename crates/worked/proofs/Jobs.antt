-- What a call on a newly made study of the two-job sheet leaves, as a closed term.
use Rattle.std.proofs.Common.{◌≡◌, ℕ, ◌≤◌, [], ◌∷◌, map, ap, ◌∙◌, ap₂, lit≤}
use mathlib.Core.HLevel.{is_prop→PathP}
use native.Mathlib.Bridge.{le_prop}
use Rattle.maps.specs.JobOrder.{job_order}
use Rattle.maps.specs.Response.{job_rules}
use Rattle.maps.specs.declared.jobs.job.Job.{Job}
use Rattle.maps.specs.declared.jobs.job.Lock.TheVariants.{Free, Inherit}
use Rattle.maps.specs.declared.jobs.panel.Jobs.{Jobs}
use Rattle.sheets.specs.JobsBody.{Panel, panel_of, terms_of}
use Rattle.study.specs.Calls.{Call, Deed, deed}
use Rattle.study.specs.History.{made}
use Rattle.transcript.specs.Panels.{panel_order, panel_rules}
use Rattle.transcript.proofs.Alike.{new_alike}
use Rattle.transcript.proofs.Twins.{panel_alike}
use Rattle.worked.specs.Examples.{blanks, over_jobs, strip}
use Rattle.worked.specs.Sheets.{JobOf, TwoJobs}

-- jobs of the same numbers and the same lock are the same
same_job : (u v : Job) → u.run ≡ v.run → u.period ≡ v.period → u.limit ≡ v.limit → u.hold ≡ v.hold → u.lock ≡ v.lock → u ≡ v
same_job u v run period limit hold lock i = record {
  run = run i;
  period = period i;
  limit = limit i;
  hold = hold i;
  lock = lock i;
  run_some = is_prop→PathP (λ j. 1 ≤ run j) (λ j. le_prop) u.run_some v.run_some i;
  run_most = is_prop→PathP (λ j. run j ≤ 1000000) (λ j. le_prop) u.run_most v.run_most i;
  period_some = is_prop→PathP (λ j. 1 ≤ period j) (λ j. le_prop) u.period_some v.period_some i;
  period_most = is_prop→PathP (λ j. period j ≤ 1000000) (λ j. le_prop) u.period_most v.period_most i;
  limit_some = is_prop→PathP (λ j. 1 ≤ limit j) (λ j. le_prop) u.limit_some v.limit_some i;
  limit_most = is_prop→PathP (λ j. limit j ≤ period j) (λ j. le_prop) u.limit_most v.limit_most i;
  hold_most = is_prop→PathP (λ j. hold j ≤ run j) (λ j. le_prop) u.hold_most v.hold_most i;
}

-- the sheet's jobs, and the sheet in plain terms
abbrev first_job : Job
first_job = record { run = 2; period = 10; limit = 10; hold = 0; lock = Free; run_some = lit≤ tt; run_most = lit≤ tt; period_some = lit≤ tt; period_most = lit≤ tt; limit_some = lit≤ tt; limit_most = lit≤ tt; hold_most = lit≤ tt }

abbrev second_job : Job
second_job = record { run = 3; period = 20; limit = 20; hold = 1; lock = Inherit; run_some = lit≤ tt; run_most = lit≤ tt; period_some = lit≤ tt; period_most = lit≤ tt; limit_some = lit≤ tt; limit_most = lit≤ tt; hold_most = lit≤ tt }

abbrev sheet : Panel
sheet = record { step = 50; jobs = map terms_of (first_job ∷ second_job ∷ []) }

first_is_lem : (j : Job) → JobOf 2 10 10 0 Free j → j ≡ first_job
first_is_lem j h = same_job j first_job h.runs h.periods h.limits h.holds h.locks

second_is_lem : (j : Job) → JobOf 3 20 20 1 Inherit j → j ≡ second_job
second_is_lem j h = same_job j second_job h.runs h.periods h.limits h.holds h.locks

-- what is left by a call on a newly made study of a panel, and of just these jobs
abbrev left_by : Panel → ℕ → ℕ → Call ℕ → Deed ℕ
left_by p allowance room = deed panel_order panel_rules (made panel_rules p allowance) strip (blanks room)

abbrev pub on_sheet : ℕ → ℕ → Call ℕ → Deed ℕ
on_sheet = left_by sheet

sheet_is : (m : Jobs) → TwoJobs m → panel_of m ≡ sheet
sheet_is m h =
    ap₂ (λ step jobs. record { step = step; jobs = map terms_of jobs }) h.step
    (h.jobs ∙ ap₂ (λ j k. j ∷ k ∷ []) (first_is_lem h.first h.first_is) (second_is_lem h.second h.second_is))

-- every newly made study of the sheet is as good as that one
pub on_sheet_lem : (m : Jobs) → TwoJobs m → (allowance room : ℕ) (call : Call ℕ) → over_jobs m allowance room call ≡ on_sheet allowance room call
on_sheet_lem m h allowance room call =
    new_alike job_order job_rules m panel_order panel_rules (panel_of m) (panel_alike m) allowance strip (blanks room) call
    ∙ ap (λ p. left_by p allowance room call) (sheet_is m h)
