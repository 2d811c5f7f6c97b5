-- Values and points: how a call's values name a point, and how ranks are written to the strip as values.
use Rattle.std.specs.Prelude.{ℕ, zero, suc, ◌-◌, Bool, cond, ◌||◌, List, [], ◌∷◌, ◌++◌, length, replicate, Some, None, Ok, Err, Option, Result, nat_lt}
use Rattle.std.specs.Option.{unwrap_or}
use Rattle.points.specs.Points.{rank_of, size_of}
use Rattle.bisection.specs.declared.bounds.Bounds.{Bounds}

-- a rank, if a coordinate of this size uses it
abbrev pub used : ℕ → Option ℕ → Option ℕ
used size None = None
used size (Some r) = cond (nat_lt r size) (Some r) None

-- a rank goes before those of the other values
abbrev pub before : ℕ → Result (List ℕ) ℕ → Result (List ℕ) ℕ
before r (Ok rs) = Ok (r ∷ rs)
before r (Err i) = Err i

-- the rank of coordinate i, if there is one, and then those of the others
abbrev pub ranked : ℕ → Option ℕ → Result (List ℕ) ℕ → Result (List ℕ) ℕ
ranked i None rest = Err i
ranked i (Some r) rest = before r rest

-- the ranks of values, from coordinate i on, or the first coordinate whose value has none that it uses
abbrev pub ranks_from : {V : Type 0} → (V → Option ℕ) → List ℕ → ℕ → List V → Result (List ℕ) ℕ
ranks_from rank sizes i [] = Ok []
ranks_from rank sizes i (v ∷ vs) = ranked i (used (size_of sizes i) (rank v)) (ranks_from rank sizes (suc i) vs)

-- ranks as a point: the unused coordinates have rank 0
abbrev pub point_of : List ℕ → List ℕ
point_of rs = rs ++ replicate (8 - length rs) 0

-- ranks are written as values, cell by cell; the cells beyond keep their contents
abbrev pub written : {V : Type 0} → (ℕ → Option V) → List ℕ → List V → List V
written member [] cells = cells
written member (r ∷ rs) [] = []
written member (r ∷ rs) (c ∷ cells) = unwrap_or (member r) c ∷ written member rs cells

-- the first of n numbers from i on that passes a test
abbrev pub first_from : ℕ → ℕ → (ℕ → Bool) → Option ℕ
first_from zero i test = None
first_from (suc n) i test = cond (test i) (Some i) (first_from n (suc i) test)

-- p lies outside the box in coordinate i
abbrev pub outside_at : Bounds → List ℕ → ℕ → Bool
outside_at box p i = nat_lt (rank_of p i) (rank_of box.floor.at i) || nat_lt (rank_of box.roof.at i) (rank_of p i)

-- the first coordinate in which it does
abbrev pub first_outside : Bounds → List ℕ → Option ℕ
first_outside box p = first_from 8 0 (outside_at box p)
