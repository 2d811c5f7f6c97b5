-- Points, their order, and the meaning of whatever answers questions about them.
use Rattle.std.specs.Prelude.{◌≡◌, ℕ, zero, suc, ◌≤◌, Bool, true, false, cond, ◌&&◌, ltb, List, [], ◌∷◌, map, length, Some, None, Ok, Err, Option, Result, ◌==◌, nat_lt, slice_index}
use Rattle.std.specs.List.{range_with_len}
use Rattle.points.specs.declared.Fault.{Fault}

-- the rank of p in coordinate i, counted from 0
abbrev pub rank_of : List ℕ → ℕ → ℕ
rank_of p i = slice_index p i

-- the size of coordinate i among eight sizes
abbrev pub size_of : List ℕ → ℕ → ℕ
size_of sizes i = slice_index sizes i

-- eight numbers, by coordinate
abbrev pub eight : (ℕ → ℕ) → List ℕ
eight f = map f (range_with_len 0 8)

-- the test f holds at each number below n
abbrev pub all_below : ℕ → (ℕ → Bool) → Bool
all_below zero f = true
all_below (suc n) f = f n && all_below n f

-- eight ranks are a point where each is below the size of its coordinate; an unused coordinate has size 1, so its rank is 0
abbrev pub is_point : List ℕ → List ℕ → Bool
is_point sizes p = length p == 8 && all_below 8 (λ i. ltb (rank_of p i) (size_of sizes i))

-- p is at most q: in each coordinate its rank is at most q's
abbrev pub AtMost : List ℕ → List ℕ → Type 0
AtMost p q = (i : ℕ) → rank_of p i ≤ rank_of q i

-- the first place from i on, counted from i, at which p is above q
abbrev pub first_above_from : ℕ → List ℕ → List ℕ → Option ℕ
first_above_from i [] q = None
first_above_from i (a ∷ p) [] = None
first_above_from i (a ∷ p) (b ∷ q) = cond (nat_lt b a) (Some i) (first_above_from (suc i) p q)

-- the first coordinate in which p is above q, if there is one
abbrev pub first_above : List ℕ → List ℕ → Option ℕ
first_above = first_above_from 0

-- two lists of ranks are the same
abbrev pub same_ranks : List ℕ → List ℕ → Bool
same_ranks [] [] = true
same_ranks [] (b ∷ q) = false
same_ranks (a ∷ p) [] = false
same_ranks (a ∷ p) (b ∷ q) = a == b && same_ranks p q

-- what is told of eight ranks that are no point
abbrev pub outside : Fault
outside = record { cause = 9; depth = 0 }

-- the meaning of a map: for each question an answer or a fault
abbrev pub Meaning : Type 0
Meaning = List ℕ → Result (List ℕ) Fault

-- a meaning that answers at points alone
abbrev pub at_points : List ℕ → Meaning → Meaning
at_points sizes F q = cond (is_point sizes q) (F q) (Err outside)

-- a larger question never has a smaller answer
abbrev pub Monotone : Meaning → Type 0
Monotone F = (p q y z : List ℕ) → AtMost p q → F p ≡ Ok y → F q ≡ Ok z → AtMost y z
