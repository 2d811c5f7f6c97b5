-- A layer that moves in its own way, and answers as what it holds.
use Rattle.std.specs.Prelude.{ℕ, List}
use Rattle.maps.specs.Rules.{Rules}

-- the rules of what is held, under moves of its own
abbrev pub moving : {L M : Type 0} → (L → M) → Rules M → (L → List ℕ → L → Type 0) → Rules L
moving held r puts = record {
  dims = λ l. r.dims (held l);
  sizes = λ l. r.sizes (held l);
  meaning = λ l. r.meaning (held l);
  puts = puts;
}
