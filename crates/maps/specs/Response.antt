-- Response times: what a panel's jobs answer to a guess of each other's response times, in ticks.
use Rattle.std.specs.Prelude.{◌≡◌, ℕ, suc, ◌+◌, ◌*◌, ◌/◌, ◌%◌, min, max, cond, List, [], ◌∷◌, take, drop, Some, None, Ok, vec_items, vec_len, Option, ◌==◌}
use Rattle.std.specs.List.{slice_get}
use Rattle.points.specs.Points.{Meaning, at_points, eight, rank_of}
use Rattle.maps.specs.Rules.{Rules}
use Rattle.maps.specs.declared.jobs.job.Job.{Job}
use Rattle.maps.specs.declared.jobs.job.Lock.{Lock}
use Rattle.maps.specs.declared.jobs.job.Lock.TheVariants.{Free, Inherit, Plain}
use Rattle.maps.specs.declared.jobs.panel.Jobs.{Jobs}

-- how often a job of period t is released within r ticks: r / t, rounded up
abbrev pub releases : ℕ → ℕ → ℕ
releases r t = r / t + min 1 (r % t)

-- for how long a held lock keeps others waiting: the hold where it is inherited, the holder's response time r where it is plain
abbrev pub waits : Lock → ℕ → ℕ → ℕ
waits Free hold r = 0
waits Inherit hold r = hold
waits Plain hold r = r

-- what one lower job with response time r adds to the blocking: nothing if it never holds the lock
abbrev pub holdup : Job → ℕ → ℕ
holdup job r = cond (job.hold == 0) 0 (waits job.lock job.hold r)

-- the blocking by lower jobs, with their response times: the largest that one of them adds
abbrev pub blocking : List Job → List ℕ → ℕ
blocking [] rs = 0
blocking (k ∷ ks) [] = 0
blocking (k ∷ ks) (r ∷ rs) = max (holdup k r) (blocking ks rs)

-- the time that higher jobs take within r ticks
abbrev pub preemption : List Job → ℕ → ℕ
preemption [] r = 0
preemption (j ∷ js) r = releases r j.period * j.run + preemption js r

-- what holds of the job of coordinate i, or the last number if the coordinate is unused
abbrev pub of_job : (Job → ℕ) → ℕ → Option Job → ℕ
of_job f unused None = unused
of_job f unused (Some job) = f job

-- the answer in coordinate i to the response times p: run, blocking and preemption, at most one past the limit
abbrev pub response : List Job → List ℕ → ℕ → ℕ
response jobs p i =
    of_job (λ job. min (job.limit + 1) (job.run + blocking (drop (suc i) jobs) (drop (suc i) p) + preemption (take i jobs) (rank_of p i)))
    0 (slice_get jobs i)

-- the size of coordinate i: the ranks of a job go up to one past its limit
abbrev pub job_size : List Job → ℕ → ℕ
job_size jobs i = of_job (λ job. job.limit + 2) 1 (slice_get jobs i)

abbrev pub job_sizes : List Job → List ℕ
job_sizes jobs = eight (job_size jobs)

abbrev pub job_meaning : List Job → Meaning
job_meaning jobs = at_points (job_sizes jobs) (λ q. Ok (eight (response jobs q)))

-- putting a question changes nothing
abbrev pub job_rules : Rules Jobs
job_rules = record {
  dims = λ m. vec_len m.jobs;
  sizes = λ m. job_sizes (vec_items m.jobs);
  meaning = λ m. job_meaning (vec_items m.jobs);
  puts = λ m q n. n ≡ m;
}
