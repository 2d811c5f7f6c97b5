-- Eight places that are filled one after the other, the rest still at a pad.
use Rattle.std.proofs.Common.{◌≡◌, ℕ, ◌+◌, ◌<◌, ◌≤◌, ◌⊎◌, List, length, get_or, set, replicate, sym, ◌∙◌, inl, inr, arith}
use Rattle.std.proofs.lemmas.List.{get_or-replicate, get_or-set_same, get_or-set_other, length-replicate, length-set}
use Rattle.std.proofs.lemmas.Bool.{cases_lt}
use Rattle.points.specs.Points.{eight}
use Rattle.points.proofs.Eight.{eight_from}

-- the first i places hold f, the others the pad
pub record Filled (f : ℕ → ℕ) (pad i : ℕ) (xs : List ℕ) : Type 0 where
  pub whole : length xs ≡ 8
  pub front : (k : ℕ) → k < i → get_or xs k 0 ≡ f k
  pub back : (k : ℕ) → i ≤ k → k < 8 → get_or xs k 0 ≡ pad

pub filled_none : (f : ℕ → ℕ) (pad : ℕ) → Filled f pad 0 (replicate 8 pad)
filled_none f pad = record {
  whole = length-replicate 8 pad;
  front = λ k h. absurd (omega arith);
  back = λ k past h. get_or-replicate 8 k pad 0 h;
}

module _ (f : ℕ → ℕ) (pad i : ℕ) (xs : List ℕ) (filled : Filled f pad i xs) where
  pub filled_more : (v : ℕ) → i < 8 → v ≡ f i → Filled f pad (i + 1) (set xs i v)
  filled_more v h e = record {
    whole = length-set xs i v ∙ filled.whole;
    front = λ k l. front_at k l (cases_lt k i);
    back = λ k past l. get_or-set_other xs i k v 0 (omega arith) ∙ filled.back k (omega arith) l;
  }
    where
      front_at : (k : ℕ) → k < i + 1 → (k < i) ⊎ (i ≤ k) → get_or (set xs i v) k 0 ≡ f k
      front_at k l (inl b) = get_or-set_other xs i k v 0 (omega arith) ∙ filled.front k b
      front_at k l (inr b) =
          let s : k ≡ i = omega arith in
          rw s (get_or-set_same xs i v 0 (omega (arith, filled.whole)) ∙ e)

  -- where f is the pad at all places that are left, the whole is f
  pub filled_all : ((k : ℕ) → i ≤ k → f k ≡ pad) → xs ≡ eight f
  filled_all rest = eight_from f xs filled.whole (λ k h. at k h (cases_lt k i))
    where
      at : (k : ℕ) → k < 8 → (k < i) ⊎ (i ≤ k) → get_or xs k 0 ≡ f k
      at k h (inl l) = filled.front k l
      at k h (inr l) = filled.back k l h ∙ sym (rest k l)
