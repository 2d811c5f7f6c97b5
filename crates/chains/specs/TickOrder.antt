-- The tick chain: the member at rank r is r steps, in microseconds.
use Rattle.std.specs.Prelude.{ℕ, ◌*◌, ◌/◌, ◌%◌, Bool, cond, not, ◌&&◌, Some, None, Option, ◌==◌, nat_le, nat_lt}
use Rattle.chains.specs.Order.{Order}
use Rattle.chains.specs.declared.ticks.steps.Ticks.{Ticks}
use Rattle.chains.specs.declared.ticks.TicksFault.{TicksFault}
use Rattle.chains.specs.declared.ticks.TicksFault.TheVariants.{Step, Size}

abbrev pub tick_order : Order Ticks ℕ
tick_order = record {
  size = λ c. c.size;
  member = λ c r. cond (nat_lt r c.size) (Some (r * c.step)) None;
  rank = λ c v. cond (v % c.step == 0 && nat_lt (v / c.step) c.size) (Some (v / c.step)) None;
}

-- x lies from low to high
abbrev pub within : ℕ → ℕ → ℕ → Bool
within low high x = nat_le low x && nat_le x high

-- what is wrong with a step and a size: the step goes from 1 to 1,000 and the size from 1 to 1,000,002
abbrev pub ticks_fault : ℕ → ℕ → Option TicksFault
ticks_fault step size =
    cond (not (within 1 1000 step)) (Some Step)
    (cond (not (within 1 1000002 size)) (Some Size) None)
