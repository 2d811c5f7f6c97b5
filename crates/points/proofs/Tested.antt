-- What the test for a point tells, and what passes it.
use Rattle.std.proofs.Common.{◌≡◌, ℕ, ◌<◌, true, ltb, List, length, refl}
use Rattle.std.proofs.lemmas.Bool.{and_parts, and_from, eqb-true, eq-eqb}
use Rattle.std.proofs.lemmas.Bool.Decides.{Decides-below_and, Decides-ltb}
use Rattle.points.specs.Points.{rank_of, size_of, all_below, is_point}

module _ (sizes p : List ℕ) where
  ranks : (n : ℕ) → (all_below n (λ i. ltb (rank_of p i) (size_of sizes i)) ≡ true → (k : ℕ) → k < n → rank_of p k < size_of sizes k) × (((k : ℕ) → k < n → rank_of p k < size_of sizes k) → all_below n (λ i. ltb (rank_of p i) (size_of sizes i)) ≡ true)
  ranks n =
      Decides-below_and (λ i. ltb (rank_of p i) (size_of sizes i)) (λ i. rank_of p i < size_of sizes i)
      (λ m. all_below m (λ i. ltb (rank_of p i) (size_of sizes i))) (λ i. Decides-ltb (rank_of p i) (size_of sizes i)) refl (λ _. refl) n

  -- a point has eight ranks
  pub point_eight_lem : is_point sizes p ≡ true → length p ≡ 8
  point_eight_lem t = eqb-true (length p) 8 (and_parts _ _ t).0

  -- and each of them is below its size
  pub point_within : is_point sizes p ≡ true → (i : ℕ) → i < 8 → rank_of p i < size_of sizes i
  point_within t = (ranks 8).0 (and_parts _ _ t).1

  -- that is all that it takes
  pub point_from : length p ≡ 8 → ((i : ℕ) → i < 8 → rank_of p i < size_of sizes i) → is_point sizes p ≡ true
  point_from e h = and_from _ _ (eq-eqb (length p) 8 e) ((ranks 8).1 h)
