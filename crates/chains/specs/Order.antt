-- What a chain means: a finite list of distinct values, low first.
use Rattle.std.specs.Prelude.{◌≡◌, ℕ, ◌^◌, ◌<◌, ◌≤◌, is_some, Some, Option, nat_lt}

-- a chain of type C with values of type V
pub record Order (C V : Type 0) : Type 0 where
  -- how many members it has
  pub size : C → ℕ
  -- the member at a rank
  pub member : C → ℕ → Option V
  -- the rank of a value
  pub rank : C → V → Option ℕ

-- what each chain shows
pub record OrderLaws {C V : Type 0} (o : Order C V) : Type 0 where
  -- it has from 1 to 4,294,967,295 members
  pub sized : (c : C) → (1 ≤ o.size c) × (o.size c < 2 ^ 32)
  -- a member stands exactly at the ranks below its size
  pub members : (c : C) (r : ℕ) → is_some (o.member c r) ≡ nat_lt r (o.size c)
  -- the rank of the member at r is r
  pub ranked : (c : C) (r : ℕ) (v : V) → o.member c r ≡ Some v → o.rank c v ≡ Some r
  -- a value whose rank is r is the member at r
  pub placed : (c : C) (v : V) (r : ℕ) → o.rank c v ≡ Some r → o.member c r ≡ Some v
