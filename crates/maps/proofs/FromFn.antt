-- Eight numbers that a closure makes, each from its coordinate.
use Rattle.std.proofs.Common.{◌≡◌, ℕ, zero, suc, ◌+◌, ◌<◌, ◌≤◌, ◌⊎◌, inl, inr, List, get_or, refl, ◌∙◌, subst, arith}
use Rattle.std.specs.Array.{IsFromFnResult, IsFromFnResultFrom}
use Rattle.std.specs.Fn.{Called, Mut}
use Rattle.std.proofs.lemmas.Bool.{cases_lt}
use Rattle.points.specs.Points.{eight}
use Rattle.points.proofs.Eight.{eight_from}

module _ {F : Type 0} (g : Mut F (ℕ × Unit {0}) ℕ) (s : F) (f : ℕ → ℕ) (says : (i y : ℕ) (t : F) → i < 8 → Called g s (i, tt) y t → (t ≡ s) × (y ≡ f i)) (ys : List ℕ) where
  calls_from : (i n : ℕ) (t : F) → t ≡ s → i + n ≤ 8 → IsFromFnResultFrom g t ys i n → (k : ℕ) → i ≤ k → k < i + n → get_or ys k 0 ≡ f k
  calls_from i zero t same room made k low high = absurd (omega arith)
  calls_from i (suc n) t same room (next, y, here, call, rest) k low high =
      let said = says i y next (omega arith) (subst (λ u. Called g u (i, tt) y next) same call) in
      at said.1 (calls_from (i + 1) n next said.0 (omega arith) rest k) (cases_lt i k)
    where
      at : y ≡ f i → (i + 1 ≤ k → k < i + 1 + n → get_or ys k 0 ≡ f k) → (i < k) ⊎ (k ≤ i) → get_or ys k 0 ≡ f k
      at is later (inl past) = later (omega arith) (omega arith)
      at is later (inr first) = let e : k ≡ i = omega arith in rw e (here.1 0 ∙ is)

  pub from_fn_eight : IsFromFnResult g s ys 8 → ys ≡ eight f
  from_fn_eight made = eight_from f ys made.long (λ k h. calls_from 0 8 s refl (omega arith) made.each k (omega arith) (omega arith))
