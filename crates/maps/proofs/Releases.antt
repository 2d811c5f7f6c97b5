-- Releases within a span: no more than its ticks, and no fewer in a longer span.
use Rattle.std.proofs.Common.{◌≡◌, ℕ, ◌+◌, ◌*◌, ◌/◌, ◌%◌, ◌<◌, ◌≤◌, ◌⊎◌, inl, inr, mul-le-mul_right, mod-lt, suc-mul, mul-le-mul_left, div-add-mod', arith}
use Rattle.std.proofs.lemmas.Nat.{mul-le}
use Rattle.std.proofs.lemmas.Bool.{cases_lt}
use Rattle.maps.specs.Response.{releases}
use Rattle.maps.specs.declared.jobs.job.Job.{Job}

releases_most : (r t : ℕ) → 1 ≤ t → releases r t ≤ r
releases_most r t some = omega (arith, div-add-mod' r t, mul-le-mul_left (r / t) some)

-- what one job takes is within bounds
pub taken_most : (j : Job) (r : ℕ) → r ≤ 4294967295 → releases r j.period * j.run ≤ 4294967295000000
taken_most j r h =
    mul-le (releases r j.period) j.run 4294967295 1000000 (omega (arith, releases_most r j.period j.period_some)) j.run_most

-- a longer span has no fewer releases
pub releases_rise : (r s t : ℕ) → 1 ≤ t → r ≤ s → releases r t ≤ releases s t
releases_rise r s t some h = by_quotient (cases_lt (s / t) (r / t))
  where
    rs : (r / t * t + r % t ≡ r) × (s / t * t + s % t ≡ s)
    rs = (div-add-mod' r t, div-add-mod' s t)

    by_quotient : (s / t < r / t) ⊎ (r / t ≤ s / t) → releases r t ≤ releases s t
    by_quotient (inl l) =
        absurd (omega (arith, rs, mod-lt s {m = t} some, mul-le-mul_right t l, suc-mul (s / t) t))
    by_quotient (inr l) = by_equal (cases_lt (r / t) (s / t))
      where
        by_equal : (r / t < s / t) ⊎ (s / t ≤ r / t) → releases r t ≤ releases s t
        by_equal (inl k) = omega arith
        by_equal (inr k) = omega (arith, rs, mul-le-mul_right t k)
