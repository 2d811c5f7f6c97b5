use Rattle.std.proofs.Common.{◌≡◌, [], length, ap, arith}
use Rattle.bisection.proofs.Progress.{opened_many}
use Rattle.bisection.proofs.levels.Levels.open.Goals as goal

pub invariant_of-result : goal.invariant_of-result
invariant_of-result c =
    let many : length c.loop-k.at.items ≡ c.loop-k.k = omega (arith, ap length c.loop-k.invariant, opened_many c.args.bounds.now c.loop-k.k []) in
    record { some = omega arith; most = omega arith }
