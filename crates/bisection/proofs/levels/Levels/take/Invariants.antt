use Rattle.std.proofs.Common.{◌≡◌, drop}
use Rattle.bisection.specs.Judge.{decide}
use Rattle.bisection.proofs.levels.Levels.take.Given as goal

-- the levels below k agreed, so what is decided from level k up is what is decided
abbrev pub invariant-loop-k : goal.invariant-loop-k
invariant-loop-k l = decide l.k (drop l.k l.level-items) l.put ≡ decide 0 l.level-items l.put
