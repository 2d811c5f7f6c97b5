-- A meaning that answers at points alone.
use Rattle.std.proofs.Common.{◌≡◌, ℕ, Bool, true, false, cond, List, Ok, Err, refl, arith}
use Rattle.std.proofs.lemmas.Bool.{cond-true, cond-false}
use Rattle.points.specs.Points.{Meaning, at_points, is_point, outside}
use Rattle.points.specs.declared.Fault.{Fault}

module _ (sizes : List ℕ) (F : Meaning) (q : List ℕ) where
  pub at_point : is_point sizes q ≡ true → at_points sizes F q ≡ F q
  at_point t = cond-true _ _ _ t

  pub no_point : is_point sizes q ≡ false → at_points sizes F q ≡ Err outside
  no_point t = cond-false _ _ _ t

  answered_if : (b : Bool) (y : List ℕ) → cond b (F q) (Err outside) ≡ Ok y → (b ≡ true) × (F q ≡ Ok y)
  answered_if true y e = (refl, e)
  answered_if false y e = let z : ◌≡◌ {A = ℕ} 0 1 = cc in absurd (omega arith)

  -- what is answered is a point, and is answered so
  pub answered : (y : List ℕ) → at_points sizes F q ≡ Ok y → (is_point sizes q ≡ true) × (F q ≡ Ok y)
  answered y e = answered_if (is_point sizes q) y e

  faulted_if : (P : Fault → Type 0) (b : Bool) (f : Fault) → P outside → ((g : Fault) → F q ≡ Err g → P g) → cond b (F q) (Err outside) ≡ Err f → P f
  faulted_if P true f out under e = under f e
  faulted_if P false f out under e = let s : outside ≡ f = cc in rw (← s) out

  -- what holds of the fault outside, and of each fault at points, holds of each fault
  pub faulted : (P : Fault → Type 0) (f : Fault) → P outside → ((g : Fault) → F q ≡ Err g → P g) → at_points sizes F q ≡ Err f → P f
  faulted P f out under e = faulted_if P (is_point sizes q) f out under e
