-- A job whose numbers are in their ranges is refused for its mark alone.
use Rattle.std.proofs.Common.{◌≡◌, ℕ, ◌-◌, Bool, true, false, cond, not, Some, None, Ok, Err, Option, Result, sym, refl, subst, ◌∙◌, arith}
use Rattle.std.proofs.lemmas.Bool.Decides.{nat_tests}
use Rattle.std.specs.Result.{IsOk, result_or}
use Rattle.chains.specs.Making.{Made}
use Rattle.chains.specs.TickOrder.{within}
use Rattle.maps.specs.JobRanges.{job_fault, jobs_fault, lock_of, marks}
use Rattle.maps.specs.declared.jobs.faults.JobFault.{JobFault}
use Rattle.maps.specs.declared.jobs.faults.JobFault.TheVariants.{Mark}
use Rattle.maps.specs.declared.jobs.faults.JobsFault.{JobsFault}
use Rattle.maps.specs.declared.jobs.job.Job.{Job}
use Rattle.maps.specs.declared.jobs.job.Lock.{Lock}
use Rattle.maps.specs.declared.jobs.panel.Jobs.{Jobs}
use Rattle.sheets.specs.JobsBody.{lock_due, lock_if, terms_of}
use Rattle.sheets.specs.Dues.{numbered}
use Rattle.sheets.specs.Reading.{State, Tells, give, refuse}
use Rattle.sheets.specs.declared.faults.Fault.TheVariants.{Form}
use Rattle.sheets.specs.declared.faults.Unread.{Unread}
use Rattle.sheets.specs.declared.faults.Unread.TheVariants.{Bad}
use Rattle.sheets.proofs.Ranges.{number_range}

abbrev unmarked : Option Lock → ℕ → Option JobFault
unmarked o hold = cond (not (marks o hold)) (Some Mark) None

-- the four numbers were read in their ranges
pub record InRanges (run period limit hold : ℕ) : Type 0 where
  pub a : within 1 1000000 run ≡ true
  pub b : within 1 1000000 period ≡ true
  pub c : within 1 period limit ≡ true
  pub d : within 0 run hold ≡ true

-- and so each reader tells
pub in_ranges : (run period limit hold : ℕ) (s s' t t' u u' v v' : State) → numbered 1 1000000 s ≡ Ok (run, s') → numbered 1 1000000 t ≡ Ok (period, t') → numbered 1 period u ≡ Ok (limit, u') → numbered 0 run v ≡ Ok (hold, v') → InRanges run period limit hold
in_ranges run period limit hold s s' t t' u u' v v' a b c d = record { a = number_range _ _ _ _ _ a; b = number_range _ _ _ _ _ b; c = number_range _ _ _ _ _ c; d = number_range _ _ _ _ _ d }

fault_is : (run period limit hold mark : ℕ) → InRanges run period limit hold → job_fault run period limit hold mark ≡ unmarked (lock_of mark) hold
fault_is run period limit hold mark r = rw (r.a, r.b, r.c, r.d)

test_refused : (b : Bool) (lock : Lock) (f : JobFault) (s : State) → cond (not b) (Some Mark) None ≡ Some f → cond b (give lock) (refuse Form) s ≡ Err (Form, s.line)
test_refused true lock f s e = absurd (cc)
test_refused false lock f s e = refl

lock_refused : (o : Option Lock) (hold : ℕ) (f : JobFault) (s : State) → unmarked o hold ≡ Some f → lock_if o hold s ≡ Err (Form, s.line)
lock_refused None hold f s e = refl
lock_refused (Some lock) hold f s e = test_refused (marks (Some lock) hold) lock f s e

pub job_refused : (run period limit hold mark : ℕ) (f : JobFault) (s : State) → InRanges run period limit hold → job_fault run period limit hold mark ≡ Some f → lock_due mark hold s ≡ Err (Form, s.line)
unfolding lock_due
job_refused run period limit hold mark f s r e = lock_refused (lock_of mark) hold f s (sym (fault_is run period limit hold mark r) ∙ e)

test_given : (b : Bool) (lock : Lock) (s : State) → cond (not b) (Some Mark) None ≡ None → cond b (give lock) (refuse Form) s ≡ Ok (lock, s)
test_given true lock s e = refl
test_given false lock s e = absurd (cc)

lock_given : (o : Option Lock) (lock : Lock) (hold : ℕ) (s : State) → Some lock ≡ o → unmarked o hold ≡ None → lock_if o hold s ≡ Ok (lock, s)
lock_given None lock hold s is e = absurd (cc)
lock_given (Some l) lock hold s is e = let same : l ≡ lock = cc in rw (← same) (test_given (marks (Some l) hold) l s e)

pub job_given : (run period limit hold mark : ℕ) (lock : Lock) (s : State) → InRanges run period limit hold → job_fault run period limit hold mark ≡ None → Some lock ≡ lock_of mark → lock_due mark hold s ≡ Ok (lock, s)
unfolding lock_due
job_given run period limit hold mark lock s r e is = lock_given (lock_of mark) lock hold s is (sym (fault_is run period limit hold mark r) ∙ e)

-- what a job is made from
abbrev pub MadeOf : (run period limit hold mark : ℕ) → Result Job JobFault → Type 0
MadeOf run period limit hold mark r = Made (job_fault run period limit hold mark) (λ j. (j.run ≡ run) × (j.period ≡ period) × (j.limit ≡ limit) × (j.hold ≡ hold) × (Some j.lock ≡ lock_of mark)) r

-- a job that is refused is told as its lock is
pub job_unread : (run period limit hold mark : ℕ) (s : State) (r : Result Job JobFault) (v : Unread) → InRanges run period limit hold → MadeOf run period limit hold mark r → Err v ≡ result_or r (Err (Bad Form s.line)) → Tells (lock_due mark hold s) v
job_unread run period limit hold mark s (Ok j) v i h e = absurd (cc)
job_unread run period limit hold mark s (Err f) v i h e = let same : v ≡ Bad Form s.line = cc in rw same (job_refused run period limit hold mark f s i h)

-- a job that is made has the numbers that were read, and the lock of its mark
pub job_read : (run period limit hold mark : ℕ) (s : State) (r : Result Job JobFault) (u : Unread) (job : Job) → InRanges run period limit hold → MadeOf run period limit hold mark r → Ok job ≡ result_or r (Err u) → (lock_due mark hold s ≡ Ok (job.lock, s)) × (record { run = run; period = period; limit = limit; hold = hold; lock = job.lock } ≡ terms_of job)
job_read run period limit hold mark s (Ok j) u job i h e =
    let same : j ≡ job = cc in
    subst (λ k. (lock_due mark hold s ≡ Ok (k.lock, s)) × (record { run = run; period = period; limit = limit; hold = hold; lock = k.lock } ≡ terms_of k)) same (job_given run period limit hold mark j.lock s i h.0 h.1.4, rw (h.1.0, h.1.1, h.1.2, h.1.3))
job_read run period limit hold mark s (Err f) u job i h e = absurd (cc)

-- a step in its range, and 1 to 8 jobs, make a panel
pub panel_fits : (step lines count : ℕ) (Wanted : Jobs → Type 0) (r : Result Jobs JobsFault) → within 1 1000 step ≡ true → within 2 9 lines ≡ true → count ≡ lines - 1 → Made (jobs_fault step count) Wanted r → IsOk r
panel_fits step lines count Wanted (Ok m) s l e h = refl
panel_fits step lines count Wanted (Err f) s l e h =
    let fits : within 1 8 count ≡ true = grind (arith, nat_tests) in
    let fine : jobs_fault step count ≡ None = rw (s, fits) in
    absurd (cc)
