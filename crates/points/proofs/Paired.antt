-- The test for a point, and the search for the first coordinate above, as they go through pairs of numbers.
use Rattle.std.proofs.Common.{◌≡◌, ℕ, zero, suc, ◌<◌, Bool, true, ltb, Option, List, [], ◌∷◌, length, zip, position, refl, sym, ◌∙◌, Decides, add-one, arith}
use Rattle.std.specs.List.{list_all, position_from}
use Rattle.std.proofs.lemmas.Bool.{and_parts, and_from}
use Rattle.std.proofs.lemmas.Bool.Decides.{Decides-ltb, same_from_decides}
use Rattle.std.proofs.lemmas.Iterator.Adapters.{position_from-zero}
use Rattle.points.specs.Points.{rank_of, size_of, is_point, first_above, first_above_from}
use Rattle.points.proofs.Tested.{point_within, point_from}

abbrev pub below : ℕ × ℕ → Bool
below x = ltb x.0 x.1

abbrev pub above : ℕ × ℕ → Bool
above x = ltb x.1 x.0

in_pairs : (p sizes : List ℕ) → length p ≡ length sizes → Decides (list_all below (zip p sizes)) ((i : ℕ) → i < length p → rank_of p i < size_of sizes i)
in_pairs [] [] e = (λ _ i h. absurd (omega arith), λ _. refl)
in_pairs [] (b ∷ sizes) e = absurd (omega arith)
in_pairs (a ∷ p) [] e = absurd (omega arith)
in_pairs (a ∷ p) (b ∷ sizes) e = let rest = in_pairs p sizes (omega (arith, e)) in (λ t. each t rest, λ h. and_from _ _ ((Decides-ltb a b).1 (h 0 (omega arith))) (rest.1 (λ i l. h (suc i) (omega (arith, l)))))
  where
    each : list_all below (zip (a ∷ p) (b ∷ sizes)) ≡ true → Decides (list_all below (zip p sizes)) ((i : ℕ) → i < length p → rank_of p i < size_of sizes i) → (i : ℕ) → i < length (a ∷ p) → rank_of (a ∷ p) i < size_of (b ∷ sizes) i
    each t rest zero h = (Decides-ltb a b).0 (and_parts _ _ t).0
    each t rest (suc i) h = rest.0 (and_parts _ _ t).1 i (omega (arith, h))

-- the test of all pairs is the test for a point
pub point_from_pairs : (sizes p : List ℕ) (r : Bool) → r ≡ list_all below (zip p sizes) → length p ≡ 8 → length sizes ≡ 8 → r ≡ is_point sizes p
point_from_pairs sizes p r told e s =
    told ∙ same_from_decides _ _ (in_pairs p sizes (e ∙ sym s)) (λ t i h. point_within sizes p t i (rw (← e) h), λ h. point_from sizes p e (λ i l. h i (rw e l)))

first_in_pairs : (i : ℕ) (p q : List ℕ) → position_from above i (zip p q) ≡ first_above_from i p q
first_in_pairs i [] q = refl
first_in_pairs i (a ∷ p) [] = refl
first_in_pairs i (a ∷ p) (b ∷ q) = rw (add-one, first_in_pairs (suc i) p q)

-- the first pair that is above is the first coordinate above
pub first_from_pairs : (p q : List ℕ) (r : Option ℕ) → r ≡ position above (zip p q) → r ≡ first_above p q
first_from_pairs p q r told = told ∙ position_from-zero above (zip p q) ∙ first_in_pairs 0 p q
