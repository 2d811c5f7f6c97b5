-- The body `jobs`: a step in microseconds, then a line for each job, highest priority first.
use Rattle.std.specs.Prelude.{ℕ, ◌-◌, cond, List, map, Some, None, vec_items, codes, Option}
use Rattle.maps.specs.JobRanges.{lock_of, marks}
use Rattle.maps.specs.declared.jobs.job.Job.{Job}
use Rattle.maps.specs.declared.jobs.job.Lock.{Lock}
use Rattle.maps.specs.declared.jobs.panel.Jobs.{Jobs}
use Rattle.sheets.specs.Dues.{any_mark, line_ends, named, number_line, numbered}
use Rattle.sheets.specs.Lines.{next_line}
use Rattle.sheets.specs.Many.{many_lines}
use Rattle.sheets.specs.Reading.{Reader, ◌>>=◌, ◌>>◌, give, refuse}
use Rattle.sheets.specs.declared.faults.Fault.TheVariants.{Form}

-- a job as a line tells it: times in ticks, and its lock
pub record Terms : Type 0 where
  pub run : ℕ
  pub period : ℕ
  pub limit : ℕ
  pub hold : ℕ
  pub lock : Lock

-- a jobs map as a body tells it
pub record Panel : Type 0 where
  pub step : ℕ
  pub jobs : List Terms

abbrev pub terms_of : Job → Terms
terms_of j = record { run = j.run; period = j.period; limit = j.limit; hold = j.hold; lock = j.lock }

abbrev pub panel_of : Jobs → Panel
panel_of m = record { step = m.ticks.step; jobs = map terms_of (vec_items m.jobs) }

abbrev pub lock_if : Option Lock → ℕ → Reader Lock
lock_if None hold = refuse Form
lock_if (Some lock) hold = cond (marks (Some lock) hold) (give lock) (refuse Form)

-- the lock of a mark; no lock goes with no hold
unfoldable pub lock_due : ℕ → ℕ → Reader Lock
lock_due mark hold = lock_if (lock_of mark) hold

unfoldable pub job_line : Reader Terms
job_line = do
  next_line
  named (codes "job") Form
  run ← numbered 1 1000000
  period ← numbered 1 1000000
  limit ← numbered 1 period
  hold ← numbered 0 run
  mark ← any_mark
  lock ← lock_due mark hold
  line_ends
  give (record { run = run; period = period; limit = limit; hold = hold; lock = lock })

-- the first of these lines tells the step
unfoldable pub jobs_body : ℕ → Reader Panel
jobs_body lines = do
  step ← number_line (codes "step") Form 1 1000
  jobs ← many_lines (λ _. job_line) (lines - 1)
  give (record { step = step; jobs = jobs })
