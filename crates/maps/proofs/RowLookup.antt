-- A look-up by the index of a reply table finds what the list of its rows lists.
use Rattle.std.proofs.Common.{◌≡◌, ℕ, zero, suc, ◌<◌, ◌≤◌, Bool, true, false, List, [], ◌∷◌, length, get_or, Some, None, Option, sym, refl, ap, ◌∙◌, arith}
use Rattle.std.proofs.lemmas.List.{get_or_read_under}
use Rattle.std.proofs.lemmas.Bool.{and_parts}
use Rattle.points.specs.Points.{is_point, same_ranks}
use Rattle.points.specs.declared.Entry.{Entry}
use Rattle.points.proofs.Same.{same_decides}
use Rattle.maps.specs.Indexed.{Apart, Listed, Placed}
use Rattle.maps.specs.Replies.{all_points, listed_answer, row_sizes, slot_of}
use Rattle.maps.proofs.RowSlots.{slot_once, wider}

-- the row at k, or a blank one past the end
abbrev pub row_at : List Entry → ℕ → Entry
row_at rows k = get_or rows k (record { point = []; answer = [] })

-- what was read at the place of p stands there
pub read_place : (places : List (Option ℕ)) (p : List ℕ) (s n : ℕ) (x o : Option ℕ) → s ≡ slot_of p → s < 4096 → n ≡ 4096 → n ≡ length places → x ≡ get_or places s x → x ≡ o → get_or places (slot_of p) None ≡ o
read_place places p s n x o same below spread whole read is =
    ap (λ k. get_or places k None) (sym same) ∙ sym (get_or_read_under places s n x None read (omega arith) whole) ∙ is

-- every row is of points
pub points_at : (sizes : List ℕ) (rows : List Entry) (k : ℕ) → all_points sizes rows ≡ true → k < length rows → (is_point sizes (row_at rows k).point ≡ true) × (is_point sizes (row_at rows k).answer ≡ true)
points_at sizes [] k t h = absurd (omega arith)
points_at sizes (row ∷ rows) zero t h = and_parts _ _ (and_parts _ _ t).0
points_at sizes (row ∷ rows) (suc k) t h = points_at sizes rows k (and_parts _ _ t).1 (omega arith)

-- no row lists q
pub listed_none : (rows : List Entry) (q : List ℕ) → ((k : ℕ) → k < length rows → same_ranks (row_at rows k).point q ≡ false) → listed_answer rows q ≡ None
listed_none [] q no_row = refl
listed_none (row ∷ rows) q no_row = rw (no_row 0 (omega arith)) (listed_none rows q (λ k h. no_row (suc k) (omega arith)))

-- row k is the first that lists q
pub listed_at : (rows : List Entry) (q : List ℕ) (k : ℕ) → k < length rows → same_ranks (row_at rows k).point q ≡ true → ((j : ℕ) → j < k → same_ranks (row_at rows j).point q ≡ false) → listed_answer rows q ≡ Some (row_at rows k).answer
listed_at [] q k h t before = absurd (omega arith)
listed_at (row ∷ rows) q zero h t before = rw t
listed_at (row ∷ rows) q (suc k) h t before =
    rw (before 0 (omega arith)) (listed_at rows q k (omega arith) t (λ j l. before (suc j) (omega arith)))

-- a test that fails wherever it would be absurd to pass
fails : (b : Bool) → (b ≡ true → ⊥) → b ≡ false
fails true h = absurd (h refl)
fails false h = refl

module _ (d n : ℕ) (rows : List Entry) (places : List (Option ℕ)) (q : List ℕ) (hd : d ≤ 4) (hn : n ≤ 8) (points : all_points (row_sizes d n) rows ≡ true) (placed : Placed rows places) (at-q : is_point (row_sizes d n) q ≡ true) where
  -- a row for q stands at q's place
  standing : (j : ℕ) → j < length rows → same_ranks (row_at rows j).point q ≡ true → get_or places (slot_of q) None ≡ Some j
  standing j h t =
      let is : (row_at rows j).point ≡ q = (same_decides (row_at rows j).point q).0 t in
      ap (λ p. get_or places (slot_of p) None) (sym is) ∙ placed j h

  -- nothing stands there, so no row lists q
  pub look_none : get_or places (slot_of q) None ≡ None → listed_answer rows q ≡ None
  look_none e = listed_none rows q (λ k h. fails _ (λ t. let s = standing k h t in let z : ◌≡◌ {A = ℕ} 0 1 = cc in omega arith))

  -- row k stands there, so it lists q and is the first to do so
  pub look_some : (k : ℕ) → Listed rows places → Apart rows places → get_or places (slot_of q) None ≡ Some k → listed_answer rows q ≡ Some (row_at rows k).answer
  look_some k listed apart e =
      let low = listed (slot_of q) k e in
      let is : (row_at rows k).point ≡ q =
      slot_once (row_at rows k).point q (wider d n _ hd hn (points_at (row_sizes d n) rows k points low).0) (wider d n q hd hn at-q) (apart (slot_of q) k e) in
      listed_at rows q k low ((same_decides _ q).1 is)
      (λ j l. fails _ (λ t. let s = standing j (omega arith) t in let z : j ≡ k = cc in omega arith))

  -- no row lists q, so nothing stands at its place
  pub look_free : Listed rows places → Apart rows places → listed_answer rows q ≡ None → get_or places (slot_of q) None ≡ None
  look_free listed apart e = at (get_or places (slot_of q) None) refl
    where
      at : (o : Option ℕ) → get_or places (slot_of q) None ≡ o → get_or places (slot_of q) None ≡ None
      at None s = s
      at (Some k) s = let r = look_some k listed apart s in let z : ◌≡◌ {A = ℕ} 0 1 = cc in absurd (omega arith)
