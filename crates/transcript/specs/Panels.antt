-- What a panel means as a map, as a sheet tells it: by the rules of the jobs map, over the plain terms of its jobs.
use Rattle.std.specs.Prelude.{◌≡◌, ℕ, suc, ◌+◌, ◌*◌, min, max, cond, List, [], ◌∷◌, length, take, drop, Some, None, Ok, Option, ◌==◌}
use Rattle.std.specs.List.{slice_get}
use Rattle.chains.specs.Order.{Order}
use Rattle.points.specs.Points.{Meaning, at_points, eight, rank_of}
use Rattle.maps.specs.Response.{releases, waits}
use Rattle.maps.specs.Rules.{Rules}
use Rattle.sheets.specs.JobsBody.{Panel, Terms}
use Rattle.transcript.specs.Ticks.{tick_member, tick_rank}

-- what one lower job with response time r adds to the blocking
abbrev pub terms_holdup : Terms → ℕ → ℕ
terms_holdup job r = cond (job.hold == 0) 0 (waits job.lock job.hold r)

-- the largest that one of the lower jobs adds
abbrev pub terms_blocking : List Terms → List ℕ → ℕ
terms_blocking [] rs = 0
terms_blocking (k ∷ ks) [] = 0
terms_blocking (k ∷ ks) (r ∷ rs) = max (terms_holdup k r) (terms_blocking ks rs)

-- the time that higher jobs take within r ticks
abbrev pub terms_preemption : List Terms → ℕ → ℕ
terms_preemption [] r = 0
terms_preemption (j ∷ js) r = releases r j.period * j.run + terms_preemption js r

-- what holds of the terms of coordinate i, or the last number if the coordinate is unused
abbrev pub of_terms : (Terms → ℕ) → ℕ → Option Terms → ℕ
of_terms f unused None = unused
of_terms f unused (Some job) = f job

-- the answer in coordinate i to the response times p
abbrev pub terms_response : List Terms → List ℕ → ℕ → ℕ
terms_response jobs p i =
    of_terms (λ job. min (job.limit + 1) (job.run + terms_blocking (drop (suc i) jobs) (drop (suc i) p) + terms_preemption (take i jobs) (rank_of p i)))
    0 (slice_get jobs i)

abbrev pub terms_size : List Terms → ℕ → ℕ
terms_size jobs i = of_terms (λ job. job.limit + 2) 1 (slice_get jobs i)

abbrev pub terms_sizes : List Terms → List ℕ
terms_sizes jobs = eight (terms_size jobs)

abbrev pub terms_meaning : List Terms → Meaning
terms_meaning jobs = at_points (terms_sizes jobs) (λ q. Ok (eight (terms_response jobs q)))

-- the size of the largest coordinate
abbrev pub longest_terms : List Terms → ℕ
longest_terms [] = 1
longest_terms (j ∷ js) = max (j.limit + 2) (longest_terms js)

-- its ticks reach as far as its longest limit
abbrev pub panel_order : Order Panel ℕ
panel_order = record {
  size = λ p. longest_terms p.jobs;
  member = λ p. tick_member p.step (longest_terms p.jobs);
  rank = λ p. tick_rank p.step (longest_terms p.jobs);
}

abbrev pub panel_rules : Rules Panel
panel_rules = record {
  dims = λ p. length p.jobs;
  sizes = λ p. terms_sizes p.jobs;
  meaning = λ p. terms_meaning p.jobs;
  puts = λ p q n. n ≡ p;
}
