use Rattle.std.proofs.Common.{◌≡◌, ◌^◌, ◌≤◌, length}
use Rattle.bisection.specs.Bits.{product}
use Rattle.bisection.proofs.digits.most_questions.Given as goal

abbrev pub invariant-loop-floor : goal.invariant-loop-floor
invariant-loop-floor l = (l.most ≡ product (length l.yielded) l.bounds) × (l.most ≤ 64 ^ length l.yielded)
