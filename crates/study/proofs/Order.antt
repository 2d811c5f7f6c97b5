-- What is learnt where no coordinate is above, and none outside.
use Rattle.std.proofs.Common.{◌≡◌, ℕ, zero, suc, ◌+◌, ◌<◌, ◌≤◌, Bool, true, false, cond, ltb, ◌⊎◌, List, [], ◌∷◌, length, Some, None, Option, sym, refl, ap, ◌∙◌, inl, inr, zero-le, arith}
use Rattle.std.proofs.lemmas.List.{get_or_past}
use Rattle.std.proofs.lemmas.Bool.{cases_lt, ltb-false, or_parts}
use Rattle.points.specs.Points.{AtMost, first_above, first_above_from, is_point, rank_of}
use Rattle.points.proofs.Tested.{point_from, point_within}
use Rattle.bisection.specs.Bounds.{Between}
use Rattle.bisection.specs.declared.bounds.Bounds.{Bounds}
use Rattle.study.specs.Values.{first_from, first_outside, outside_at}

-- a test that gave nothing failed
none_here : (b : Bool) (i : ℕ) (rest : Option ℕ) → cond b (Some i) rest ≡ None → (b ≡ false) × (rest ≡ None)
none_here true i rest e = absurd cc
none_here false i rest e = (refl, e)

none_above : (i : ℕ) (p q : List ℕ) → length p ≡ length q → first_above_from i p q ≡ None → AtMost p q
none_above i [] q n e k = zero-le
none_above i (a ∷ p) [] n e k = absurd (omega arith)
none_above i (a ∷ p) (b ∷ q) n e zero = ltb-false b a (none_here (ltb b a) i (first_above_from (suc i) p q) e).0
none_above i (a ∷ p) (b ∷ q) n e (suc k) =
    none_above (suc i) p q (omega arith) (none_here (ltb b a) i (first_above_from (suc i) p q) e).1 k

pub at_most_from : (p q : List ℕ) → length p ≡ length q → first_above p q ≡ None → AtMost p q
at_most_from = none_above 0

none_passes : (n i : ℕ) (test : ℕ → Bool) → first_from n i test ≡ None → (k : ℕ) → k < n → test (i + k) ≡ false
none_passes zero i test e k h = absurd (omega arith)
none_passes (suc n) i test e zero h =
    let s : i + 0 ≡ i = omega arith in ap test s ∙ (none_here (test i) i (first_from n (suc i) test) e).0
none_passes (suc n) i test e (suc k) h =
    let s : i + suc k ≡ suc i + k = omega arith in
    ap test s ∙ none_passes n (suc i) test (none_here (test i) i (first_from n (suc i) test) e).1 k (omega arith)

-- eight ranks, beyond which there are none
at_most_eight : (p q : List ℕ) → length p ≡ 8 → ((i : ℕ) → i < 8 → rank_of p i ≤ rank_of q i) → AtMost p q
at_most_eight p q n h i = at (cases_lt i 8)
  where
    at : (i < 8) ⊎ (8 ≤ i) → rank_of p i ≤ rank_of q i
    at (inl l) = h i l
    at (inr l) = rw (get_or_past p i 0 (omega arith)) zero-le

-- a point that is nowhere outside lies between
pub between_from : (box : Bounds) (p : List ℕ) → length box.floor.at ≡ 8 → length p ≡ 8 → first_outside box p ≡ None → Between box p
between_from box p nf np e =
    let sides : (i : ℕ) → i < 8 → (rank_of box.floor.at i ≤ rank_of p i) × (rank_of p i ≤ rank_of box.roof.at i) =
    λ i h.
    let s : 0 + i ≡ i = omega arith in
    let parts = or_parts _ _ (ap (outside_at box p) (sym s) ∙ none_passes 8 0 (outside_at box p) e i h) in
    (ltb-false (rank_of p i) (rank_of box.floor.at i) parts.0, ltb-false (rank_of box.roof.at i) (rank_of p i) parts.1) in
    (at_most_eight box.floor.at p nf (λ i h. (sides i h).0), at_most_eight p box.roof.at np (λ i h. (sides i h).1))

-- what lies below a point is one
pub point_under : (sizes p q : List ℕ) → length p ≡ 8 → AtMost p q → is_point sizes q ≡ true → is_point sizes p ≡ true
point_under sizes p q n h t =
    point_from sizes p n (λ i l. omega (arith, h i, point_within sizes q t i l))
