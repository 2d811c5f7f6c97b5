use Rattle.std.proofs.Common.{arith, rules, ◌∙◌}
use Rattle.bisection.proofs.Question.{question_more}
use Rattle.bisection.proofs.Written.{blank}
use Rattle.bisection.proofs.levels.Levels.question.Goals as goal

pub loop-k-preserved : goal.loop-k-preserved
loop-k-preserved c =
    let ls = c.deref-level-items.result.now in
    let k = c.loop-k.k in
    (search (rules, c.loop-k.invariant)) ∙ question_more ls k blank (omega arith) (omega arith)
