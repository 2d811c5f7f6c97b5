use Rattle.std.proofs.Common.{map, string_bytes}
use Rattle.transcript.specs.Transcript.{planned_call}
use Rattle.std.proofs.lemmas.Result.{IfOk-weaker}
use Rattle.transcript.proofs.Studied.{studied}
use Rattle.transcript.proofs.run.study_map.Goals as goal

pub returns : goal.returns
returns g c =
    IfOk-weaker c.finish.result _ _
    (λ text end. studied g.M.Chain.order g.M.Map.rules g.V.Printed.bytes g.M.Chain.KIND g.V.Printed.nothing c.args.map c.args.allowance (map planned_call c.args.calls.now)
    c.in_ok-session.session c.calls.new.self (string_bytes text) c.in_ok-session.ensures c.in_ok-calls.ensures end)
    c.finish.ensures
