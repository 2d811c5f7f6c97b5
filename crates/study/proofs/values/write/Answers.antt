use Rattle.std.proofs.Common.{◌≡◌, ◌+◌, ◌++◌, take, drop, set, unwrap_or, sym, ap, ◌∙◌, arith}
use Rattle.std.proofs.lemmas.List.{length-set}
use Rattle.study.specs.Values.{written}
use Rattle.study.proofs.Cells.{write_end, write_more}
use Rattle.study.proofs.values.write.Goals as goal

pub loop-i-preserved : goal.loop-i-preserved
loop-i-preserved g c =
    let member = g.C.Chain.order.member c.args.chain.now in
    let ranks = c.args.ranks.now in
    let strip = c.loop-i.strip in
    let i = c.loop-i.i in
    let k = c.args.at + i in
    let cell = c.index-strip-at.result in
    let v = c.unwrap_or.result in
    let next : c.args.at + (i + 1) ≡ k + 1 = omega arith in
    let value = c.unwrap_or.ensures ∙ ap (λ o. unwrap_or o cell) c.member.ensures in (
      length-set strip k v ∙ c.loop-i.invariant.0,
      ap (λ n. take n (set strip k v) ++ written member (drop (i + 1) ranks) (drop n (set strip k v))) next
          ∙ write_more member ranks strip k i cell v c.loop-i-test.true (omega arith) c.index-strip-at.is value
          ∙ c.loop-i.invariant.1,
    )

pub returns : goal.returns
returns g c =
    sym (write_end (g.C.Chain.order.member c.args.chain.now) c.args.ranks.now c.loop-i.strip (c.args.at + c.loop-i.i) c.loop-i.i c.loop-i-test.false)
    ∙ c.loop-i.invariant.1
