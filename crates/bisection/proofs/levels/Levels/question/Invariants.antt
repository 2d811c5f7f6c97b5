use Rattle.std.proofs.Common.{◌≡◌, take}
use Rattle.bisection.specs.Levels.{question}
use Rattle.bisection.proofs.levels.Levels.question.Given as goal

abbrev pub invariant-loop-k : goal.invariant-loop-k
invariant-loop-k l = l.ranks ≡ question (take l.k l.level-items)
