-- What the machine's state means, and what its calls do to it.
use Rattle.std.specs.Prelude.{ℕ, suc, min, max, cond, List, length, drop, nat_lt}
use Rattle.bisection.specs.Judge.{Decision}
use Rattle.bisection.specs.Levels.{opened}
use Rattle.bisection.specs.declared.bounds.Bounds.{Bounds}
use Rattle.bisection.specs.declared.level.Level.{Level}
use Rattle.bisection.specs.declared.levels.Levels.{Levels}
use Rattle.bisection.specs.declared.verdict.Next.{Next}
use Rattle.bisection.specs.declared.verdict.Next.TheVariants.{Settled, Pair, Question}

-- the levels in use, the innermost first
abbrev pub levels_of : Levels → List Level
levels_of s = s.at.items

-- a number of coordinates, brought into 1 to 8
abbrev pub in_range : ℕ → ℕ
in_range dims = min 8 (max 1 dims)

-- level k takes these bounds and each level below copies them; there being no level k, nothing changes
abbrev pub reopened : ℕ → Bounds → List Level → List Level
reopened k b levels = cond (nat_lt k (length levels)) (opened b (suc k) (drop (suc k) levels)) levels

-- what the caller is told of a decision
abbrev pub told : Decision → Next
told Decision.settled = Settled
told (Decision.pair low high k) = Pair low high k
told (Decision.goes levels) = Question

-- the levels after a decision: only a search that goes on has new ones
abbrev pub levels_after : Decision → List Level → List Level
levels_after Decision.settled levels = levels
levels_after (Decision.pair low high k) levels = levels
levels_after (Decision.goes next) levels = next
