use Rattle.std.proofs.Common.{◌≡◌, ◌-◌, ◌≤◌, [], get_or, drop}
use Rattle.bisection.specs.Judge.{decide}
use Rattle.bisection.specs.Machine.{levels_of}
use Rattle.study.proofs.Seeking.{Asking}
use Rattle.study.proofs.state.Study.seek.Given as goal

-- the levels below k have agreed with the newest entry
abbrev pub invariant-levels : goal.invariant-levels
invariant-levels g l =
    let entry = get_or l.log l.at (record { point = []; answer = [] }) in
    (levels_of l.levels ≡ levels_of l.initial.levels) × (l.k ≤ 8) × (decide l.k (drop l.k (levels_of l.levels)) entry ≡ decide 0 (levels_of l.levels) entry)

abbrev pub decreases-levels : goal.decreases-levels
decreases-levels g l = 8 - l.k

abbrev pub invariant-questions : goal.invariant-questions
invariant-questions g l =
    Asking g.M.Chain.order g.M.Map.rules l.initial.self l.initial.log (levels_of l.levels) l.made l.self l.log

abbrev pub decreases-questions : goal.decreases-questions
decreases-questions g l = l.self.left
