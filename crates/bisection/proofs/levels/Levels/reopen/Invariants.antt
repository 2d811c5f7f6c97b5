use Rattle.std.proofs.Common.{◌≡◌}
use Rattle.bisection.proofs.Opened.{opened_to}
use Rattle.bisection.proofs.levels.Levels.reopen.Given as goal

abbrev pub invariant-loop-j : goal.invariant-loop-j
invariant-loop-j l = l.level-items ≡ opened_to l.bounds l.k l.j l.initial.level-items
