-- What a move of a floor or a roof in coordinate k leaves.
use Rattle.std.proofs.Common.{◌≡◌, ℕ, suc, ◌+◌, ◌-◌, ◌/◌, ◌<◌, ◌≤◌, ◌⊎◌, List, ◌∷◌, length, get_or, take, drop, sym, refl, ap, ◌∙◌, subst, inl, inr, arith, length-append, length-drop}
use Rattle.std.proofs.lemmas.List.{get_or_append_left, get_or-append_right, get_or-take, get_or-drop, get_or_at, length-take-le}
use Rattle.std.proofs.lemmas.Bool.{cases_order}
use Rattle.points.specs.declared.Entry.{Entry}
use Rattle.points.specs.Points.{rank_of, AtMost}
use Rattle.bisection.specs.Bounds.{middle, width, Between, moved, raised, lowered}
use Rattle.bisection.specs.declared.bounds.Bounds.{Bounds}
use Rattle.bisection.specs.declared.bounds.Side.{Side}

module _ (k : ℕ) (e : Entry) (side : Side) (hk : k < 8) (point : length e.point ≡ 8) (eight : length side.at ≡ 8) where
  front : length (take k e.point) ≡ k
  front = length-take-le k e.point (omega arith)

  pub moved_eight : length (moved k e side).at ≡ 8
  moved_eight = simp (length-append, length-drop) (omega (arith, front))

  below : (i : ℕ) → i < k → rank_of (moved k e side).at i ≡ rank_of e.point i
  below i h =
      get_or_append_left (take k e.point) (rank_of e.answer k ∷ drop (suc k) side.at) 0 i (omega (arith, front))
      ∙ get_or-take k e.point i 0 h

  pub moved_at : rank_of (moved k e side).at k ≡ rank_of e.answer k
  moved_at = get_or_at (take k e.point) (rank_of e.answer k) (drop (suc k) side.at) 0 k front

  pub moved_above : (j : ℕ) → suc k ≤ j → rank_of (moved k e side).at j ≡ rank_of side.at j
  moved_above j h =
      get_or-append_right (take k e.point) (rank_of e.answer k ∷ drop (suc k) side.at) k j 0 front (omega arith)
      ∙ ap (λ n. get_or (rank_of e.answer k ∷ drop (suc k) side.at) n 0) one
      ∙ get_or-drop (suc k) side.at (j - suc k) 0
      ∙ ap (λ n. get_or side.at n 0) back
    where
      one : j - k ≡ suc (j - suc k)
      one = omega arith

      back : suc k + (j - suc k) ≡ j
      back = omega arith

  -- what holds of the question below k, of the answer at k and of the old side above k holds of the moved side
  pub moved_all : (P : ℕ → ℕ → Type 0) → ((i : ℕ) → i < k → P i (rank_of e.point i)) → P k (rank_of e.answer k) → ((i : ℕ) → k < i → P i (rank_of side.at i)) → (i : ℕ) → P i (rank_of (moved k e side).at i)
  moved_all P lower here upper i = go (cases_order i k)
    where
      go : (i ≡ k) ⊎ ((i < k) ⊎ (k < i)) → P i (rank_of (moved k e side).at i)
      go (inl s) = subst (λ n. P n (rank_of (moved k e side).at n)) (sym s) (subst (P k) (sym moved_at) here)
      go (inr (inl h)) = subst (P i) (sym (below i h)) (lower i h)
      go (inr (inr h)) = subst (P i) (sym (moved_above i h)) (upper i h)

-- the bounds c lie within the bounds b
abbrev pub Inside : Bounds → Bounds → Type 0
Inside c b = AtMost b.floor.at c.floor.at × AtMost c.roof.at b.roof.at

-- after a move in coordinate k the bounds c lie within b, miss the middle m, are at most half as wide there, and are as they were above k
pub record Narrowed (k m : ℕ) (b c : Bounds) : Type 0 where
  pub floor_eight : length c.floor.at ≡ 8
  pub roof_eight : length c.roof.at ≡ 8
  pub inside : Inside c b
  pub ordered : AtMost c.floor.at c.roof.at
  pub misses : (x : List ℕ) → Between c x → rank_of x k ≡ m → ⊥
  pub half : width c k ≤ width b k / 2
  pub kept : (j : ℕ) → k < j → (rank_of c.floor.at j ≡ rank_of b.floor.at j) × (rank_of c.roof.at j ≡ rank_of b.roof.at j)

-- bounds that may be narrowed in coordinate k by the question e: below k it lies within them
pub record Narrowable (k : ℕ) (b : Bounds) (e : Entry) : Type 0 where
  pub small : k < 8
  pub point_eight : length e.point ≡ 8
  pub floor_eight : length b.floor.at ≡ 8
  pub roof_eight : length b.roof.at ≡ 8
  pub ordered : AtMost b.floor.at b.roof.at
  pub within : (i : ℕ) → i < k → (rank_of b.floor.at i ≤ rank_of e.point i) × (rank_of e.point i ≤ rank_of b.roof.at i)

module _ (k : ℕ) (b : Bounds) (e : Entry) (n : Narrowable k b e) where
  pub raised_narrows : middle b k < rank_of e.answer k → rank_of e.answer k ≤ rank_of b.roof.at k → Narrowed k (middle b k) b (raised k e b)
  raised_narrows above under =
      let at = moved_at k e b.floor n.small n.point_eight n.floor_eight in
      let all = moved_all k e b.floor n.small n.point_eight n.floor_eight in
      record {
        floor_eight = moved_eight k e b.floor n.small n.point_eight n.floor_eight;
        roof_eight = n.roof_eight;
        inside =
            (all (λ i v. rank_of b.floor.at i ≤ v) (λ i h. (n.within i h).0) (omega arith) (λ i h. omega arith), λ i. omega arith);
        ordered = all (λ i v. v ≤ rank_of b.roof.at i) (λ i h. (n.within i h).1) under (λ i h. n.ordered i);
        misses = λ x c s. omega (arith, c.0 k, at);
        half = omega (arith, at);
        kept = λ j h. (moved_above k e b.floor n.small n.point_eight n.floor_eight j h, refl);
      }

  pub lowered_narrows : rank_of e.answer k < middle b k → rank_of b.floor.at k ≤ rank_of e.answer k → Narrowed k (middle b k) b (lowered k e b)
  lowered_narrows below over =
      let at = moved_at k e b.roof n.small n.point_eight n.roof_eight in
      let all = moved_all k e b.roof n.small n.point_eight n.roof_eight in
      record {
        floor_eight = n.floor_eight;
        roof_eight = moved_eight k e b.roof n.small n.point_eight n.roof_eight;
        inside =
            (λ i. omega arith, all (λ i v. v ≤ rank_of b.roof.at i) (λ i h. (n.within i h).1) (omega (arith, n.ordered k)) (λ i h. omega arith));
        ordered = all (λ i v. rank_of b.floor.at i ≤ v) (λ i h. (n.within i h).0) over (λ i h. n.ordered i);
        misses = λ x c s. omega (arith, c.1 k, at);
        half = omega (arith, at, n.ordered k);
        kept = λ j h. (refl, moved_above k e b.roof n.small n.point_eight n.roof_eight j h);
      }
