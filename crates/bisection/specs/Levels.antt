-- The levels of a search as a list, the innermost first: how they are opened, and the question that they put.
use Rattle.std.specs.Prelude.{ℕ, zero, suc, ◌-◌, List, ◌∷◌, ◌++◌, map, length, replicate}
use Rattle.points.specs.declared.Entry.{Entry}
use Rattle.bisection.specs.Bounds.{middle}
use Rattle.bisection.specs.declared.bounds.Bounds.{Bounds}
use Rattle.bisection.specs.declared.level.Level.{Level}

-- a level that searches coordinate k within these bounds
abbrev pub level_at : ℕ → Bounds → Level
level_at k b = record { bounds = b; middle = middle b k }

-- below the levels `above`, of which the lowest is level n: level n - 1 takes these bounds, and each lower one copies them in turn
abbrev pub opened : Bounds → ℕ → List Level → List Level
opened b zero above = above
opened b (suc k) above = opened b k (level_at k b ∷ above)

-- the middles of all levels, with rank 0 in the coordinates that are not in use
abbrev pub question : List Level → List ℕ
question levels = map (λ (l : Level). l.middle) levels ++ replicate (8 - length levels) 0

-- that question with its answer
abbrev pub entry_of : List Level → List ℕ → Entry
entry_of levels y = record { point = question levels; answer = y }
