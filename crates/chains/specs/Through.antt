-- What lies over a chain is that chain too.
use Rattle.chains.specs.Order.{Order, OrderLaws}

-- the chain of what is held
abbrev pub through : {L M V : Type 0} → (L → M) → Order M V → Order L V
through held o = record {
  size = λ l. o.size (held l);
  member = λ l. o.member (held l);
  rank = λ l. o.rank (held l);
}

pub through_laws : {L M V : Type 0} (held : L → M) (o : Order M V) → OrderLaws o → OrderLaws (through held o)
through_laws held o laws = record {
  sized = λ l. laws.sized (held l);
  members = λ l. laws.members (held l);
  ranked = λ l. laws.ranked (held l);
  placed = λ l. laws.placed (held l);
}
