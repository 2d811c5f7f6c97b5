-- The largest and the sum over a panel's jobs, as its chains of iterators take them.
use Rattle.std.proofs.Common.{◌≡◌, ℕ, ◌+◌, ◌*◌, ◌≤◌, max, min, Some, List, [], ◌∷◌, length, fold, take, drop, ◌-◌, refl, add-one, arith}
use Rattle.std.specs.List.{slice_get, sum_by, zip}
use Rattle.points.specs.Points.{rank_of}
use Rattle.std.proofs.lemmas.List.{take_all, length-drop}
use Rattle.std.proofs.lemmas.List.Sums.{sum_by-cons}
use Rattle.maps.proofs.Releases.{taken_most}
use Rattle.maps.specs.JobRanges.{longest}
use Rattle.maps.specs.Response.{blocking, holdup, preemption, releases, response}
use Rattle.maps.specs.declared.jobs.job.Job.{Job}

-- the largest size so far, at least 1
pub longest_fold : (js : List Job) (size : ℕ) → 1 ≤ size → fold (λ s j. max s (j.limit + 2)) size js ≡ max size (longest js)
longest_fold [] size some = omega arith
longest_fold (j ∷ js) size some = omega (arith, longest_fold js (max size (j.limit + 2)) (omega arith))

-- the largest blocking so far
pub blocking_fold : (js : List Job) (rs : List ℕ) (largest : ℕ) → fold (λ a p. max a (holdup p.0 p.1)) largest (zip js rs) ≡ max largest (blocking js rs)
blocking_fold [] rs largest = omega arith
blocking_fold (j ∷ js) [] largest = omega arith
blocking_fold (j ∷ js) (r ∷ rs) largest = omega (arith, blocking_fold js rs (max largest (holdup j r)))

-- the time that they take, one after the other
pub preemption_sum : (js : List Job) (span : ℕ) → sum_by (λ j. releases span j.period * j.run) js ≡ preemption js span
preemption_sum [] span = refl
preemption_sum (j ∷ js) span = omega (arith, sum_by-cons (λ j. releases span j.period * j.run) j js, preemption_sum js span)

pub preemption_most : (js : List Job) (span : ℕ) → span ≤ 4294967295 → preemption js span ≤ length js * 4294967295000000
preemption_most [] span h = omega arith
preemption_most (j ∷ js) span h = omega (arith, taken_most j span h, preemption_most js span h)

-- what the rest of a slice past i holds, however it was cut
pub rest_of : {X : Type 0} (xs : List X) (n i : ℕ) → length xs ≤ n → take (n - i) (drop i xs) ≡ drop i xs
rest_of xs n i h = take_all (n - i) (drop i xs) (simp length-drop (omega arith))

-- the answer of the job at i
pub response_at : (jobs : List Job) (p : List ℕ) (i : ℕ) (j : Job) → slice_get jobs i ≡ Some j → response jobs p i ≡ min (j.limit + 1) (j.run + blocking (drop (i + 1) jobs) (drop (i + 1) p) + preemption (take i jobs) (rank_of p i))
response_at jobs p i j found = rw (found, add-one i)
