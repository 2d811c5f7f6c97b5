use Rattle.std.proofs.Common.{arith}
use Rattle.bisection.proofs.Sizes.{digits_after}
use Rattle.bisection.proofs.digits.binary_digits.Goals as goal

pub returns : goal.returns
returns c = omega (arith, c.from.ensures, digits_after c.args.width (omega arith))
