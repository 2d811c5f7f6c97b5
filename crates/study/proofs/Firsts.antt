-- What a search over a range finds is the first number of it that passes a test.
use Rattle.std.proofs.Common.{◌≡◌, ℕ, zero, suc, ◌+◌, ◌<◌, ◌≤◌, Bool, true, false, Some, None, Option, sym, refl, ap, ◌∙◌, inl, inr, arith}
use Rattle.std.proofs.lemmas.Bool.{cases_lt, cond-true, cond-false}
use Rattle.std.specs.Option.{MatchOption}
use Rattle.study.specs.Values.{first_from}

pub first_is : (n i : ℕ) (test : ℕ → Bool) (r : Option ℕ) → MatchOption r ((k : ℕ) → i ≤ k → k < i + n → test k ≡ false) (λ j. (i ≤ j) × (j < i + n) × (test j ≡ true) × ((k : ℕ) → i ≤ k → k < j → test k ≡ false)) → r ≡ first_from n i test
first_is zero i test None h = refl
first_is zero i test (Some j) h = absurd (omega arith)
first_is (suc n) i test None h =
    first_is n (suc i) test None (λ k a b. h k (omega arith) (omega arith)) ∙ sym (cond-false _ _ _ (h i (omega arith) (omega arith)))
first_is (suc n) i test (Some j) h =
    elim (cases_lt i j) [
      | inl l ↦
          first_is n (suc i) test (Some j) (l, omega arith, h.2, λ k a b. h.3 k (omega arith) b)
          ∙ sym (cond-false _ _ _ (h.3 i (omega arith) l))
      | inr l ↦
          let s : j ≡ i = omega arith in
          ap Some s ∙ sym (cond-true _ _ _ (ap test (sym s) ∙ h.2))
    ]
