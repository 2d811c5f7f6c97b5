use Rattle.std.proofs.Common.{refl}
use Rattle.study.proofs.Putting.{put_moved, spent_moved}
use Rattle.study.proofs.state.Study.put.Goals as goal

pub returns-then-self-eq0-clause-moved : goal.returns-then-self-eq0-clause-moved
returns-then-self-eq0-clause-moved g c =
    spent_moved g.M.Chain.order g.M.Map.rules c.args.self.now c.args.point c.if-self-eq0.true

pub returns-clause-moved : goal.returns-clause-moved
returns-clause-moved g c =
    put_moved g.M.Chain.order g.M.Map.rules c.args.self.now c.args.point c.if-self-eq0.false _ refl refl
    c.put.ensures.leads c.put.ensures.same c.put.ensures.same_order
