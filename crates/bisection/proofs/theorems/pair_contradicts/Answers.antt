use Rattle.bisection.proofs.Promised.{pair_is_contradiction}
use Rattle.bisection.proofs.theorems.pair_contradicts.Goals as goal

pub returns : goal.returns
returns c = pair_is_contradiction
