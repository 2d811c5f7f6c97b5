-- One more row keeps the index of a reply table right.
use Rattle.std.proofs.Common.{◌≡◌, ℕ, ◌<◌, ◌≤◌, true, ◌⊎◌, List, [], ◌∷◌, ◌++◌, length, get_or, set, Some, None, Option, sym, ap, ◌∙◌, inl, inr, arith}
use Rattle.std.proofs.lemmas.List.{get_or_append_left, get_or_push, get_or-set_other, get_or-set_same, length_push}
use Rattle.std.proofs.lemmas.Bool.{and_from, and_parts, cases_eq, cases_lt}
use Rattle.points.specs.Points.{is_point}
use Rattle.points.specs.declared.Entry.{Entry}
use Rattle.maps.specs.Indexed.{Apart, Listed, Placed, slot_at}
use Rattle.maps.specs.Replies.{all_points, slot_of}

pub points_pushed : (sizes : List ℕ) (rows : List Entry) (row : Entry) → all_points sizes rows ≡ true → is_point sizes row.point ≡ true → is_point sizes row.answer ≡ true → all_points sizes (rows ++ row ∷ []) ≡ true
points_pushed sizes [] row t p a = rw (p, a)
points_pushed sizes (first ∷ rows) row t p a =
    and_from _ _ (and_parts _ _ t).0 (points_pushed sizes rows row (and_parts _ _ t).1 p a)

module _ (rows : List Entry) (places : List (Option ℕ)) (row : Entry) (slot : ℕ) (is : slot_of row.point ≡ slot) (within : slot < length places) (free : get_or places slot None ≡ None) where
  old_slot : (k : ℕ) → k < length rows → slot_at (rows ++ row ∷ []) k ≡ slot_at rows k
  old_slot k h = ap (λ e. slot_of e.point) (get_or_append_left rows (row ∷ []) _ k h)

  new_slot : (k : ℕ) → length rows ≡ k → slot_at (rows ++ row ∷ []) k ≡ slot
  new_slot k h = ap (λ e. slot_of e.point) (get_or_push rows row _ k h) ∙ is

  pub placed_pushed : Placed rows places → Placed (rows ++ row ∷ []) (set places slot (Some (length rows)))
  placed_pushed placed k h = at (cases_lt k (length rows))
    where
      at : (k < length rows) ⊎ (length rows ≤ k) → get_or (set places slot (Some (length rows))) (slot_at (rows ++ row ∷ []) k) None ≡ Some k
      at (inl l) =
          let stands = placed k l in
          let other : slot_at rows k ≡ slot → ⊥ = λ s. let e : get_or places slot None ≡ Some k = rw (← s) stands in let z : ◌≡◌ {A = ℕ} 0 1 = cc in omega arith in
          rw (old_slot k l) (get_or-set_other places slot (slot_at rows k) (Some (length rows)) None other ∙ stands)
      at (inr l) =
          let last : length rows ≡ k = omega (arith, length_push rows row) in
          rw (new_slot k last) (get_or-set_same places slot (Some (length rows)) None within ∙ ap Some last)

  -- what stands at s after the write
  written : (s k : ℕ) → get_or (set places slot (Some (length rows))) s None ≡ Some k → ((s ≡ slot) × (length rows ≡ k)) ⊎ (get_or places s None ≡ Some k)
  written s k e = at (cases_eq s slot)
    where
      at : (s ≡ slot) ⊎ (s ≡ slot → ⊥) → ((s ≡ slot) × (length rows ≡ k)) ⊎ (get_or places s None ≡ Some k)
      at (inl here) =
          let new : get_or (set places slot (Some (length rows))) s None ≡ Some (length rows) = rw here (get_or-set_same places slot (Some (length rows)) None within) in
          inl (here, (let z : length rows ≡ k = cc in z))
      at (inr away) = inr (sym (get_or-set_other places slot s (Some (length rows)) None away) ∙ e)

  pub listed_pushed : Listed rows places → Listed (rows ++ row ∷ []) (set places slot (Some (length rows)))
  listed_pushed listed s k e = at (written s k e)
    where
      at : ((s ≡ slot) × (length rows ≡ k)) ⊎ (get_or places s None ≡ Some k) → k < length (rows ++ row ∷ [])
      at (inl new) = omega (arith, length_push rows row)
      at (inr old) = omega (arith, length_push rows row, listed s k old)

  pub apart_pushed : Listed rows places → Apart rows places → Apart (rows ++ row ∷ []) (set places slot (Some (length rows)))
  apart_pushed listed apart s k e = at (written s k e)
    where
      at : ((s ≡ slot) × (length rows ≡ k)) ⊎ (get_or places s None ≡ Some k) → slot_at (rows ++ row ∷ []) k ≡ s
      at (inl new) = new_slot k new.1 ∙ sym new.0
      at (inr old) = old_slot k (listed s k old) ∙ apart s k old
