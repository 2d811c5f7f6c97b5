use Rattle.std.proofs.Common.{sym, ap, ap₂, ◌∙◌, arith}
use Rattle.std.proofs.lemmas.List.{drop_more}
use Rattle.points.specs.declared.Entry.{Entry}
use Rattle.bisection.specs.Judge.{verdict, decide}
use Rattle.bisection.specs.Machine.{levels_of, reopened, levels_after}
use Rattle.bisection.specs.declared.verdict.Verdict.TheVariants.{Move}
use Rattle.bisection.proofs.Steps.{decided_by, move_leaves}
use Rattle.bisection.proofs.Written.{blank}
use Rattle.bisection.proofs.levels.Levels.take.Goals as goal

pub returns-in-Move-clause-leaves : goal.returns-in-Move-clause-leaves
returns-in-Move-clause-leaves c =
    let k = c.loop-k.k in
    let held = c.deref-level-items.result.now in
    let b = c.in-Move.bounds in
    let put : Entry = record { point = c.question.result; answer = c.args.answer } in
    let same = c.deref-level-items.ensures.0 in
    let moves = c.in-Move.ensures ∙ sym (ap (λ ls. verdict k ls put) (drop_more held k blank (omega arith))) in
    let decided =
    sym (decided_by k held put (Move b) c.loop-k.invariant (sym moves))
    ∙ ap₂ (λ ls q. decide 0 ls (record { point = q; answer = c.args.answer })) same c.question.ensures in
    move_leaves k held (levels_of c.reopen.new.self) put b moves (c.reopen.ensures ∙ ap (reopened k b) (sym same))
    ∙ ap (λ d. levels_after d (levels_of c.args.self.now)) decided
