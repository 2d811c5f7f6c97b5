use Rattle.std.proofs.Common.{map, vec_items, string_bytes, sym, ap, ◌∙◌, subst}
use mathlib.Core.List.{map-map}
use Rattle.maps.specs.Recall.{memo_rules}
use Rattle.chains.specs.Through.{through}
use Rattle.sheets.specs.CallsBody.{asked_of}
use Rattle.transcript.specs.Printed.{blank_record, blank_strip}
use Rattle.transcript.specs.Studied.{Studied}
use Rattle.transcript.specs.Transcript.{call_of, planned_call}
use Rattle.std.proofs.lemmas.Result.{IfOk-weaker}
use Rattle.transcript.proofs.file.run_plan.Goals as goal

pub returns : goal.returns
returns g c =
    let o = through (λ n. n.map) g.M.Chain.order in
    let r = memo_rules g.M.Map.rules in
    let calls = ap (map planned_call) c.deref.ensures.value ∙ sym (map-map call_of asked_of (vec_items c.args.plan.calls)) in
    IfOk-weaker c.study_map.result _ _
    (λ text h. record {
      memo = c.new.result;
      over = c.new.ensures.over;
      empty = c.new.ensures.empty;
      studied = subst (λ cs. Studied o r g.V.Printed.bytes g.M.Chain.KIND c.new.result c.args.plan.allow (blank_strip g.V.Printed.nothing) blank_record cs (string_bytes text)) calls h;
    })
    c.study_map.ensures
