-- Lists of letters, by their bytes.
use Rattle.std.specs.Prelude.{ℕ, suc, Bool, true, cond, not, ◌&&◌, List, [], ◌∷◌, is_some, Some, None, Option, ◌==◌, nat_le}

-- the first place at which v stands, counted from i
abbrev pub place_from : ℕ → List ℕ → ℕ → Option ℕ
place_from i [] v = None
place_from i (x ∷ xs) v = cond (x == v) (Some i) (place_from (suc i) xs v)

-- the place of v, counted from 0
abbrev pub place_of : List ℕ → ℕ → Option ℕ
place_of = place_from 0

-- A is 65 and Z is 90
abbrev pub is_capital : ℕ → Bool
is_capital x = nat_le 65 x && nat_le x 90

abbrev pub capitals : List ℕ → Bool
capitals [] = true
capitals (x ∷ xs) = is_capital x && capitals xs

-- no letter comes twice
abbrev pub different : List ℕ → Bool
different [] = true
different (x ∷ xs) = not (is_some (place_of xs x)) && different xs
