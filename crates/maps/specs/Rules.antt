-- What a map means: its coordinates, its answers, and how it moves when a question is put.
use Rattle.std.specs.Prelude.{◌≡◌, ℕ, ◌<◌, ◌≤◌, true, false, List, length, Ok, Err}
use Rattle.chains.specs.Order.{Order}
use Rattle.points.specs.Points.{Meaning, is_point, outside, size_of}
use Rattle.points.specs.declared.Fault.{Fault}

-- a map of type M
pub record Rules (M : Type 0) : Type 1 where
  -- how many coordinates it has
  pub dims : M → ℕ
  -- how many members of its chain each of the eight coordinates uses
  pub sizes : M → List ℕ
  -- what it answers
  pub meaning : M → Meaning
  -- which states it may be in after a question was put to it
  pub puts : M → List ℕ → M → Type 0

-- what each map shows
pub record RulesLaws {M : Type 0} (r : Rules M) : Type 0 where
  -- it has from 1 to 8 coordinates
  pub counted : (m : M) → (1 ≤ r.dims m) × (r.dims m ≤ 8)
  -- there are eight sizes, each at least 1
  pub eight : (m : M) → length (r.sizes m) ≡ 8
  pub some : (m : M) (i : ℕ) → i < 8 → 1 ≤ size_of (r.sizes m) i
  -- an unused coordinate has the one rank 0
  pub unused : (m : M) (i : ℕ) → r.dims m ≤ i → i < 8 → size_of (r.sizes m) i ≡ 1
  -- an answer is a point
  pub answers : (m : M) (q y : List ℕ) → r.meaning m q ≡ Ok y → is_point (r.sizes m) y ≡ true
  -- a fault has a cause from 1 to 255 and a depth up to 255
  pub faults : (m : M) (q : List ℕ) (f : Fault) → r.meaning m q ≡ Err f → (1 ≤ f.cause) × (f.cause ≤ 255) × (f.depth ≤ 255)
  -- eight ranks that are no point meet cause 9, depth 0
  pub outsides : (m : M) (q : List ℕ) → is_point (r.sizes m) q ≡ false → r.meaning m q ≡ Err outside

-- two states of a map have the same coordinates and answer alike
pub record SameRules {M : Type 0} (r : Rules M) (m n : M) : Type 0 where
  pub dims : r.dims n ≡ r.dims m
  pub sizes : r.sizes n ≡ r.sizes m
  pub meaning : (q : List ℕ) → r.meaning n q ≡ r.meaning m q

-- and have the same chain
pub record SameOrder {C V : Type 0} (o : Order C V) (m n : C) : Type 0 where
  pub size : o.size n ≡ o.size m
  pub member : (r : ℕ) → o.member n r ≡ o.member m r
  pub rank : (v : V) → o.rank n v ≡ o.rank m v
