use Rattle.std.proofs.Common.{take, ap, ◌∙◌}
use Rattle.study.specs.Values.{written}
use Rattle.study.proofs.Cells.{written_same}
use Rattle.study.proofs.state.Study.put_and_show.Goals as goal

pub returns-clause-shown : goal.returns-clause-shown
returns-clause-shown g c =
    let o = g.M.Chain.order in
    let s = c.args.self.now in
    let t = c.put.new.self in
    let moved = c.in_ok-answer.ensures.moved in
    c.show.ensures ∙ ap (λ d. written (o.member t.map) (take d c.in_ok-answer.answer) c.args.strip.now) moved.same.dims
    ∙ written_same (o.member t.map) (o.member s.map) moved.same_order.member (take (g.M.Map.rules.dims s.map) c.in_ok-answer.answer) c.args.strip.now
