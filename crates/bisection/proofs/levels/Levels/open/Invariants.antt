use Rattle.std.proofs.Common.{◌≡◌, []}
use Rattle.bisection.specs.Levels.{opened}
use Rattle.bisection.proofs.levels.Levels.open.Given as goal

abbrev pub invariant-loop-k : goal.invariant-loop-k
invariant-loop-k l = l.at.items ≡ opened l.bounds l.k []
