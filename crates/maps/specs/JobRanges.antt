-- Which numbers and which mark make a job, and which jobs make a panel.
use Rattle.std.specs.Prelude.{ℕ, ◌+◌, max, Bool, true, false, cond, not, List, [], ◌∷◌, Some, None, Option, Result, ◌==◌}
use Rattle.std.specs.Option.{ok_or}
use Rattle.chains.specs.TickOrder.{within}
use Rattle.maps.specs.declared.jobs.job.Job.{Job}
use Rattle.maps.specs.declared.jobs.job.Lock.{Lock}
use Rattle.maps.specs.declared.jobs.job.Lock.TheVariants.{Free, Inherit, Plain}
use Rattle.maps.specs.declared.jobs.faults.JobFault.{JobFault}
use Rattle.maps.specs.declared.jobs.faults.JobFault.TheVariants.{Run, Period, Limit, Hold, Mark}
use Rattle.maps.specs.declared.jobs.faults.JobsFault.{JobsFault}
use Rattle.maps.specs.declared.jobs.faults.JobsFault.TheVariants.{Step, Count}

-- the marks are h (104), p (112) and - (45)
abbrev pub lock_of : ℕ → Option Lock
lock_of mark =
    cond (mark == 104) (Some Inherit)
    (cond (mark == 112) (Some Plain)
    (cond (mark == 45) (Some Free) None))

-- what a mark gives: its lock, or the fault of a mark
abbrev pub lock_or_fault : ℕ → Result Lock JobFault
lock_or_fault mark = ok_or (lock_of mark) Mark

-- a mark goes with a hold; no lock has no hold
abbrev pub marks : Option Lock → ℕ → Bool
marks None hold = false
marks (Some Free) hold = hold == 0
marks (Some Inherit) hold = true
marks (Some Plain) hold = true

-- what is wrong with a job's numbers and mark, told in this order
abbrev pub job_fault : ℕ → ℕ → ℕ → ℕ → ℕ → Option JobFault
job_fault run period limit hold mark =
    cond (not (within 1 1000000 run)) (Some Run)
    (cond (not (within 1 1000000 period)) (Some Period)
    (cond (not (within 1 period limit)) (Some Limit)
    (cond (not (within 0 run hold)) (Some Hold)
    (cond (not (marks (lock_of mark) hold)) (Some Mark) None))))

-- what is wrong with a panel's step in microseconds and the number of its jobs
abbrev pub jobs_fault : ℕ → ℕ → Option JobsFault
jobs_fault step count =
    cond (not (within 1 1000 step)) (Some Step)
    (cond (not (within 1 8 count)) (Some Count) None)

-- the size of the largest coordinate: a job's ranks go from 0 to its limit and one more, which means late
abbrev pub longest : List Job → ℕ
longest [] = 1
longest (j ∷ js) = max (j.limit + 2) (longest js)
