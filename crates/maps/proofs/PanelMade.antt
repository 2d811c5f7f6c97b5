-- A panel is refused for its step as its ticks are.
use Rattle.std.proofs.Common.{◌≡◌, ℕ, ◌≤◌, Bool, true, false, cond, not, is_ok, Some, None, Ok, Err, Result, refl, ap, arith}
use Rattle.std.proofs.lemmas.Bool.{both_ways, le-leb}
use Rattle.chains.specs.Making.{Made}
use Rattle.chains.specs.declared.ticks.steps.Ticks.{Ticks}
use Rattle.chains.specs.TickOrder.{ticks_fault, within}
use Rattle.chains.specs.declared.ticks.TicksFault.{TicksFault}
use Rattle.chains.specs.declared.ticks.TicksFault.TheVariants.{Step, Size}
use Rattle.maps.specs.JobRanges.{jobs_fault}
use Rattle.maps.specs.declared.jobs.faults.JobsFault.TheVariants.{Step as PanelStep, Count}

-- x lies from low to high
inside : (low high x : ℕ) → low ≤ x → x ≤ high → within low high x ≡ true
inside low high x l h = rw (le-leb low x l, le-leb x high h)

-- with a size in range, ticks are refused for their step alone
step_at : (b : Bool) (size : ℕ) (e : TicksFault) → within 1 1000002 size ≡ true → cond (not b) (Some Step) (cond (not (within 1 1000002 size)) (Some Size) None) ≡ Some e → b ≡ false
step_at false size e fits t = refl
step_at true size e fits t =
    let none = rw fits at t in let z : ◌≡◌ {A = ℕ} 0 1 = cc in absurd (omega arith)

pub refused_step : (step size count : ℕ) (e : TicksFault) → 1 ≤ size → size ≤ 1000002 → ticks_fault step size ≡ Some e → jobs_fault step count ≡ Some PanelStep
refused_step step size count e l h t =
    let out : within 1 1000 step ≡ false = step_at (within 1 1000 step) size e (inside 1 1000002 size l h) t in
    ap (λ b. cond (not b) (Some PanelStep) (cond (not (within 1 8 count)) (Some Count) None)) out

pub refused_ticks : (step size count : ℕ) (P : Ticks → Type 0) (r : Result Ticks TicksFault) → 1 ≤ size → size ≤ 1000002 → Made (ticks_fault step size) P r → is_ok r ≡ false → jobs_fault step count ≡ Some PanelStep
refused_ticks step size count P (Ok ticks) l h made t = absurd (both_ways true t refl)
refused_ticks step size count P (Err e) l h made t = refused_step step size count e l h made
