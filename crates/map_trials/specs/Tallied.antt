-- A layer that only counts the questions put.
use Rattle.std.specs.Prelude.{◌≡◌, ◌+◌, ◌-◌, ◌^◌, ℕ, List, min}
use Rattle.maps.specs.Rules.{Rules}
use Rattle.maps.specs.Moving.{moving}
use Rattle.map_trials.specs.declared.tally.Tally.{Tally}

-- the map below moves as it may, and the question is counted
abbrev pub counts : {M : Type 0} → Rules M → Tally M → List ℕ → Tally M → Type 0
counts r m q n = r.puts m.map q n.map × (n.count ≡ min (m.count + 1) (2 ^ 32 - 1))

abbrev pub tally_rules : {M : Type 0} → Rules M → Rules (Tally M)
tally_rules r = moving (λ m. m.map) r (counts r)
