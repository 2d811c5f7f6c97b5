-- The ways that a whole search can go.
use Rattle.std.proofs.Common.{◌≡◌, ℕ, zero, suc, List, [], ◌∷◌, Ok, Err, Result, refl}
use Rattle.points.specs.declared.Entry.{Entry}
use Rattle.points.specs.declared.Fault.{Fault}
use Rattle.points.specs.Points.{Meaning}
use Rattle.bisection.specs.Judge.{Decision, decision}
use Rattle.bisection.specs.Judge.Decision.{settled, pair, goes}
use Rattle.bisection.specs.Levels.{question, entry_of}
use Rattle.bisection.specs.Run.{Ran, ended, after, follow, replied, run}
use Rattle.bisection.specs.Run.Outcome.{settles, pairs, spent, full, faults}
use Rattle.bisection.specs.declared.level.Level.{Level}

pub data Runs (F : Meaning) : List Level → ℕ → ℕ → Ran → Type 0 where
  spends : {ls : List Level} {room : ℕ} → Runs F ls zero room (ended [] spent)
  fills : {ls : List Level} {left : ℕ} → Runs F ls (suc left) zero (ended [] full)
  faulted : {ls : List Level} {left room : ℕ} {f : Fault} → F (question ls) ≡ Err f → Runs F ls (suc left) (suc room) (ended [] (faults (question ls) f))
  fixed : {ls : List Level} {left room : ℕ} {y : List ℕ} → F (question ls) ≡ Ok y → decision ls y ≡ settled → Runs F ls (suc left) (suc room) (ended (entry_of ls y ∷ []) (settles (question ls)))
  paired : {ls : List Level} {left room : ℕ} {y : List ℕ} {low high : Entry} {k : ℕ} → F (question ls) ≡ Ok y → decision ls y ≡ pair low high k → Runs F ls (suc left) (suc room) (ended (entry_of ls y ∷ []) (pairs low high k))
  went : {ls next : List Level} {left room : ℕ} {y : List ℕ} {r : Ran} → F (question ls) ≡ Ok y → decision ls y ≡ goes next → Runs F next left room r → Runs F ls (suc left) (suc room) (after (entry_of ls y) r)

module _ (F : Meaning) (ls : List Level) (left room : ℕ) (go : List Level → Ran) (on : (next : List Level) → Runs F next left room (go next)) where
  decided : (y : List ℕ) → F (question ls) ≡ Ok y → (s : Decision) → decision ls y ≡ s → Runs F ls (suc left) (suc room) (follow (entry_of ls y) go s)
  decided y a settled d = fixed a d
  decided y a (pair low high k) d = paired a d
  decided y a (goes next) d = went a d (on next)

  answered : (x : Result (List ℕ) Fault) → F (question ls) ≡ x → Runs F ls (suc left) (suc room) (replied ls go x)
  answered (Ok y) a = decided y a _ refl
  answered (Err f) a = faulted a

-- each search goes one of the ways
pub runs : (F : Meaning) (ls : List Level) (left room : ℕ) → Runs F ls left room (run F ls left room)
runs F ls zero room = spends
runs F ls (suc left) zero = fills
runs F ls (suc left) (suc room) =
    answered F ls left room (λ next. run F next left room) (λ next. runs F next left room) (F (question ls)) refl
