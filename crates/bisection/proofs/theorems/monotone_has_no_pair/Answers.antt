use Rattle.bisection.proofs.Promised.{monotone_has_no_pair_lem}
use Rattle.bisection.proofs.theorems.monotone_has_no_pair.Goals as goal

pub returns : goal.returns
returns c = monotone_has_no_pair_lem
