use Rattle.std.proofs.Common.{arith}
use Rattle.std.proofs.lemmas.Nat.{mul-le}
use Rattle.chains.proofs.ticks.TicksChain.member.Goals as goal

pub overflow_mul-result : goal.overflow_mul-result
overflow_mul-result c =
    omega (arith, mul-le c.args.rank c.args.self.now.step 1000001 1000 (omega arith) (omega arith))
