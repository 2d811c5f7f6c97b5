use Rattle.bisection.proofs.Promised.{search_is_honest_lem}
use Rattle.bisection.proofs.theorems.search_is_honest.Goals as goal

pub returns : goal.returns
returns c = search_is_honest_lem
