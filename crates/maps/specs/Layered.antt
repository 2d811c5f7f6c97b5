-- What a layer takes over from what it holds: it stays the same when that does, and keeps the laws of a map.
use Rattle.std.specs.Prelude.{ℕ, List}
use Rattle.chains.specs.Order.{Order}
use Rattle.chains.specs.Through.{through}
use Rattle.maps.specs.Moving.{moving}
use Rattle.maps.specs.Rules.{Rules, RulesLaws, SameOrder}

-- what is held stays, so what holds it does
pub through_same : {L M V : Type 0} (held : L → M) (o : Order M V) (m n : L) → SameOrder o (held m) (held n) → SameOrder (through held o) m n
through_same held o m n same = record { size = same.size; member = same.member; rank = same.rank }

pub moving_laws : {L M : Type 0} (held : L → M) (r : Rules M) (puts : L → List ℕ → L → Type 0) → RulesLaws r → RulesLaws (moving held r puts)
moving_laws held r puts laws = record {
  counted = λ l. laws.counted (held l);
  eight = λ l. laws.eight (held l);
  some = λ l. laws.some (held l);
  unused = λ l. laws.unused (held l);
  answers = λ l. laws.answers (held l);
  faults = λ l. laws.faults (held l);
  outsides = λ l. laws.outsides (held l);
}
