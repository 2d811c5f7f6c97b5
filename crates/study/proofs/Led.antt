-- One more question leads a map one state on.
use Rattle.std.proofs.Common.{ℕ, List, [], ◌∷◌, ◌++◌}
use Rattle.maps.specs.Rules.{Rules}
use Rattle.study.specs.History.{Leads}
use Rattle.study.specs.History.Leads.{puts, stays}

pub lead_more : {M : Type 0} (r : Rules M) {m n k : M} {q : List ℕ} {qs : List (List ℕ)} → Leads r m qs n → r.puts n q k → Leads r m (qs ++ q ∷ []) k
lead_more r stays p = puts p stays
lead_more r (puts a rest) p = puts a (lead_more r rest p)
