-- The bounds of a level: their middle, and how a floor or a roof moves.
use Rattle.std.specs.Prelude.{ℕ, suc, ◌+◌, ◌-◌, ◌/◌, List, ◌∷◌, ◌++◌, take, drop, replicate, Some, None, Option}
use Rattle.points.specs.declared.Entry.{Entry}
use Rattle.points.specs.Points.{rank_of, AtMost}
use Rattle.bisection.specs.declared.bounds.Bounds.{Bounds}
use Rattle.bisection.specs.declared.bounds.Side.{Side}

-- the middle of coordinate k: the floor and half of what is left to the roof, rounded down
abbrev pub middle : Bounds → ℕ → ℕ
middle b k = rank_of b.floor.at k + (rank_of b.roof.at k - rank_of b.floor.at k) / 2

-- how many ranks there are from floor to roof in coordinate k
abbrev pub width : Bounds → ℕ → ℕ
width b k = suc (rank_of b.roof.at k - rank_of b.floor.at k)

-- a point of the box
abbrev pub Between : Bounds → List ℕ → Type 0
Between b p = AtMost b.floor.at p × AtMost p b.roof.at

-- a side after a move in coordinate k: the question below k, the answer at k, and above k what stood there. This question is its footing
abbrev pub moved : ℕ → Entry → Side → Side
moved k e side = record { at = take k e.point ++ rank_of e.answer k ∷ drop (suc k) side.at; footing = Some e }

-- the floor moves up to the answer in coordinate k
abbrev pub raised : ℕ → Entry → Bounds → Bounds
raised k e b = record { floor = moved k e b.floor; roof = b.roof }

-- the roof moves down to it
abbrev pub lowered : ℕ → Entry → Bounds → Bounds
lowered k e b = record { floor = b.floor; roof = moved k e b.roof }

-- the footing of a side that answers contradict. From a sound box such a side has one; the entry of zeros is given if it had none
abbrev pub footing : Option Entry → Entry
footing (Some e) = e
footing None = record { point = replicate 8 0; answer = replicate 8 0 }
