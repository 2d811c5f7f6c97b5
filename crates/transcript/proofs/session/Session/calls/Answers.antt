use Rattle.transcript.proofs.Going.{going_all, going_first, going_more}
use Rattle.transcript.proofs.session.Session.calls.Goals as goal

pub loop-call-init : goal.loop-call-init
loop-call-init g c =
    going_first g.M.Chain.order g.M.Map.rules g.V.Printed.bytes c.args.calls.now c.args.self.now c.requires

pub loop-call-preserved : goal.loop-call-preserved
loop-call-preserved g c =
    let told = c.in_ok-call.ensures in
    going_more g.M.Chain.order g.M.Map.rules g.V.Printed.bytes c.args.calls.now c.args.self.now
    c.loop-call.call-index c.call-item.result c.loop-call.self told.reply c.call.new.self c.loop-call-test.true c.call-item.is told.made told.line c.loop-call.invariant

pub returns : goal.returns
returns g c =
    going_all g.M.Chain.order g.M.Map.rules g.V.Printed.bytes c.args.calls.now c.args.self.now
    c.loop-call.call-index c.loop-call.self c.loop-call-test.false c.loop-call.invariant
