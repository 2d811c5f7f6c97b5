-- The chain of a panel: its ticks.
use Rattle.std.specs.Prelude.{ℕ}
use Rattle.chains.specs.Order.{Order}
use Rattle.chains.specs.TickOrder.{tick_order}
use Rattle.chains.specs.Through.{through}
use Rattle.maps.specs.declared.jobs.panel.Jobs.{Jobs}

abbrev pub job_order : Order Jobs ℕ
job_order = through (λ m. m.ticks) tick_order
