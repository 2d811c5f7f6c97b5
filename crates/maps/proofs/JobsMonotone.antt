-- Every jobs map is monotone: a later response is never answered by an earlier one.
use Rattle.std.proofs.Common.{◌≡◌, ℕ, suc, ◌+◌, ◌≤◌, Bool, true, false, cond, eqb, List, [], ◌∷◌, length, take, drop, Some, None, Ok, Option, zero-le, mul-le-mul_right, arith}
use Rattle.std.specs.List.{slice_get}
use Rattle.std.proofs.lemmas.List.{get_or-drop, length-drop}
use Rattle.points.specs.Points.{AtMost, Monotone, eight, rank_of}
use Rattle.points.proofs.Eight.{eight_at_most}
use Rattle.points.proofs.Guarded.{answered}
use Rattle.points.proofs.Tested.{point_eight_lem}
use Rattle.maps.specs.Response.{blocking, holdup, job_meaning, job_sizes, of_job, preemption, response, waits}
use Rattle.maps.specs.declared.jobs.job.Job.{Job}
use Rattle.maps.specs.declared.jobs.job.Lock.{Lock}
use Rattle.maps.specs.declared.jobs.job.Lock.TheVariants.{Free, Inherit, Plain}
use Rattle.maps.proofs.Releases.{releases_rise}

waits_rise : (l : Lock) (hold r s : ℕ) → r ≤ s → waits l hold r ≤ waits l hold s
waits_rise Free hold r s h = omega arith
waits_rise Inherit hold r s h = omega arith
waits_rise Plain hold r s h = h

cond_rise : (b : Bool) (x y : ℕ) → x ≤ y → cond b 0 x ≤ cond b 0 y
cond_rise true x y h = omega arith
cond_rise false x y h = h

holdup_rise : (j : Job) (r s : ℕ) → r ≤ s → holdup j r ≤ holdup j s
holdup_rise j r s h = cond_rise (eqb j.hold 0) _ _ (waits_rise j.lock j.hold r s h)

blocking_rise : (js : List Job) (p q : List ℕ) → length p ≡ length q → AtMost p q → blocking js p ≤ blocking js q
blocking_rise [] p q n h = omega arith
blocking_rise (j ∷ js) [] q n h = zero-le
blocking_rise (j ∷ js) (a ∷ p) [] n h = absurd (omega arith)
blocking_rise (j ∷ js) (a ∷ p) (b ∷ q) n h =
    omega (arith, holdup_rise j a b (h 0), blocking_rise js p q (omega arith) (λ i. h (suc i)))

preemption_rise : (js : List Job) (r s : ℕ) → r ≤ s → preemption js r ≤ preemption js s
preemption_rise [] r s h = omega arith
preemption_rise (j ∷ js) r s h =
    omega (arith, mul-le-mul_right j.run (releases_rise r s j.period j.period_some h), preemption_rise js r s h)

at_most_drop : (k : ℕ) (p q : List ℕ) → AtMost p q → AtMost (drop k p) (drop k q)
at_most_drop k p q h i = rw (get_or-drop k p i 0, get_or-drop k q i 0) (h (k + i))

job_rise : (f g : Job → ℕ) (o : Option Job) → ((j : Job) → f j ≤ g j) → of_job f 0 o ≤ of_job g 0 o
job_rise f g None h = omega arith
job_rise f g (Some j) h = h j

response_rise : (jobs : List Job) (p q : List ℕ) → length p ≡ length q → AtMost p q → (i : ℕ) → response jobs p i ≤ response jobs q i
response_rise jobs p q n h i =
    let lengths : length (drop (suc i) p) ≡ length (drop (suc i) q) = simp length-drop (omega arith) in
    let blocked = blocking_rise (drop (suc i) jobs) (drop (suc i) p) (drop (suc i) q) lengths (at_most_drop (suc i) p q h) in
    let preempted = preemption_rise (take i jobs) (rank_of p i) (rank_of q i) (h i) in
    job_rise _ _ (slice_get jobs i) (λ j. omega arith)

pub jobs_monotone : (jobs : List Job) → Monotone (job_meaning jobs)
jobs_monotone jobs p q y z h ey ez =
    let low = answered (job_sizes jobs) (λ r. Ok (eight (response jobs r))) p y ey in
    let high = answered (job_sizes jobs) (λ r. Ok (eight (response jobs r))) q z ez in
    let ly = low.1 in
    let hz = high.1 in
    let same-y : eight (response jobs p) ≡ y = cc in
    let same-z : eight (response jobs q) ≡ z = cc in
    let n : length p ≡ length q = omega (arith, point_eight_lem (job_sizes jobs) p low.0, point_eight_lem (job_sizes jobs) q high.0) in
    rw (← same-y, ← same-z) (eight_at_most (response jobs p) (response jobs q) (response_rise jobs p q n h))
