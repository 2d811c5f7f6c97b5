use Rattle.transcript.proofs.Going.{Going}
use Rattle.transcript.proofs.session.Session.calls.Given as goal

abbrev pub invariant-loop-call : goal.invariant-loop-call
invariant-loop-call g l = Going g.M.Chain.order g.M.Map.rules g.V.Printed.bytes l.calls l.initial.self l.call-index l.self
