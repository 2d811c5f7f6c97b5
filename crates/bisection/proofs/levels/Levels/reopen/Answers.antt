use Rattle.std.proofs.Common.{◌∙◌, ap, arith, ◌<◌, length, rules, set}
use Rattle.bisection.specs.Machine.{reopened}
use Rattle.arrayvec.proofs.ArrayVecLemmas.{items-with_items}
use Rattle.std.proofs.lemmas.List.{set-get_or}
use Rattle.bisection.proofs.Opened.{opened_to, opened_one, opened_no_more, opened_last}
use Rattle.bisection.proofs.levels.Levels.reopen.Goals.{then-j-k, else-j-k}
use Rattle.bisection.proofs.levels.Levels.reopen.Goals as goal

pub loop-j-preserved : goal.loop-j-preserved
loop-j-preserved c =
    let b = c.args.bounds.now in
    let k = c.args.k in
    let j = c.loop-j.j in
    let old = c.deref_mut-level-items.result.now in
    elim c.if-j-k.branch [
      | then-j-k w ↦
          w.level-items-is
          ∙ ap (λ ls. set ls j w.within.result) c.loop-j.invariant
          ∙ ap (λ l. set (opened_to b k j old) j l) (search rules)
          ∙ opened_one b k j old (omega arith) (omega arith)
      | else-j-k w ↦ w.level-items-is ∙ set-get_or c.loop-j.level-items j _ ∙ c.loop-j.invariant ∙ opened_no_more b k j old (omega arith)
    ]

pub returns : goal.returns
returns c =
    let b = c.args.bounds.now in
    let k = c.args.k in
    let j = c.loop-j.j in
    let old = c.deref_mut-level-items.result.now in
    let same = c.deref_mut-level-items.ensures.value in
    let long = ap length same in
    let there : k < length old = omega arith in
    items-with_items c.args.self.now.at c.loop-j.level-items (omega arith)
    ∙ c.loop-j.invariant
    ∙ opened_last b k j old (omega arith) there
    ∙ ap (reopened k b) same
