-- Eight numbers by coordinate.
use Rattle.std.proofs.Common.{◌≡◌, ℕ, zero, suc, ◌<◌, ◌≤◌, true, ◌⊎◌, List, length, get_or, inl, inr, zero-le, zero-add, arith}
use Rattle.std.proofs.lemmas.List.FromFn.{fill_by_all, get_or-map-range_with_len, length-map-range_with_len}
use Rattle.std.proofs.lemmas.List.{get_or_past}
use Rattle.std.proofs.lemmas.Bool.{cases_lt}
use Rattle.points.specs.Points.{AtMost, eight, is_point, rank_of}
use Rattle.points.proofs.Tested.{point_from}

pub eight_length : (f : ℕ → ℕ) → length (eight f) ≡ 8
eight_length f = length-map-range_with_len f 0 8

pub eight_at : (f : ℕ → ℕ) (i : ℕ) → i < 8 → rank_of (eight f) i ≡ f i
eight_at f i h = get_or-map-range_with_len f 0 8 i i 0 h (zero-add i)

-- a list of eight numbers is told by its places
pub eight_from : (f : ℕ → ℕ) (xs : List ℕ) → length xs ≡ 8 → ((k : ℕ) → k < 8 → get_or xs k 0 ≡ f k) → xs ≡ eight f
eight_from f xs n h = fill_by_all f xs 8 0 n h

-- eight ranks, each below its size, are a point
pub eight_point : (size rank : ℕ → ℕ) → ((i : ℕ) → rank i < size i) → is_point (eight size) (eight rank) ≡ true
eight_point size rank h =
    point_from (eight size) (eight rank) (eight_length rank) (λ i l. rw (eight_at rank i l, eight_at size i l) (h i))

-- eight numbers in order are in order as points
pub eight_at_most : (f g : ℕ → ℕ) → ((i : ℕ) → f i ≤ g i) → AtMost (eight f) (eight g)
eight_at_most f g h i = by_place (cases_lt i 8)
  where
    by_place : (i < 8) ⊎ (8 ≤ i) → rank_of (eight f) i ≤ rank_of (eight g) i
    by_place (inl l) = rw (eight_at f i l, eight_at g i l) (h i)
    by_place (inr l) = rw (get_or_past (eight f) i 0 (rw (eight_length f) l)) (zero-le)

-- what holds at each of the eight coordinates holds below 8
pub by_coordinate : (P : ℕ → Type 0) → P 0 → P 1 → P 2 → P 3 → P 4 → P 5 → P 6 → P 7 → (i : ℕ) → i < 8 → P i
by_coordinate P a b c d e f g h zero l = a
by_coordinate P a b c d e f g h (suc zero) l = b
by_coordinate P a b c d e f g h (suc (suc zero)) l = c
by_coordinate P a b c d e f g h (suc (suc (suc zero))) l = d
by_coordinate P a b c d e f g h (suc (suc (suc (suc zero)))) l = e
by_coordinate P a b c d e f g h (suc (suc (suc (suc (suc zero))))) l = f
by_coordinate P a b c d e f g h (suc (suc (suc (suc (suc (suc zero)))))) l = g
by_coordinate P a b c d e f g h (suc (suc (suc (suc (suc (suc (suc zero))))))) l = h
by_coordinate P a b c d e f g h (suc (suc (suc (suc (suc (suc (suc (suc i)))))))) l = absurd (omega arith)
