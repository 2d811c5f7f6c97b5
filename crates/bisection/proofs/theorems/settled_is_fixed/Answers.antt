use Rattle.bisection.proofs.Promised.{settled_is_fixed_lem}
use Rattle.bisection.proofs.theorems.settled_is_fixed.Goals as goal

pub returns : goal.returns
returns c = settled_is_fixed_lem
