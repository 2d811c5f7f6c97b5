use Rattle.bisection.proofs.Zeros.{footing_or_zeros}
use Rattle.bisection.proofs.bounds.footing.Goals as goal

pub returns : goal.returns
returns c = footing_or_zeros c.args.of c.unwrap_or_default.result c.unwrap_or_default.ensures
