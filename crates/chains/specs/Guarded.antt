-- A value that is given only where a test passes.
use Rattle.std.specs.Prelude.{◌≡◌, ℕ, Bool, true, false, cond, is_some, Some, None, refl}
use Rattle.std.proofs.Common.{arith}

-- something is given exactly where the test passes
pub guarded_some : {V : Type 0} (b : Bool) (x : V) → is_some (cond b (Some x) None) ≡ b
guarded_some true x = refl
guarded_some false x = refl

-- what was given passed the test, and is the value
pub guarded_is : {V : Type 0} (b : Bool) (x v : V) → cond b (Some x) None ≡ Some v → (b ≡ true) × (x ≡ v)
guarded_is true x v e = (refl, cc)
guarded_is false x v e = let z : ◌≡◌ {A = ℕ} 0 1 = cc in absurd (omega arith)
