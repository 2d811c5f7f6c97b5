use Rattle.std.proofs.Common.{◌≡◌, ◌+◌, ◌-◌, [], ◌∷◌, ◌++◌, vec_items, sym, ap, ◌∙◌, arith, rules}
use Rattle.sheets.specs.CallsBody.{more_values}
use Rattle.sheets.specs.Reading.{state_of}
use Rattle.sheets.proofs.ManyValues.{values_end, values_full, values_go, values_stop}
use Rattle.sheets.proofs.Readings.{like_or, passed_on_or, told_or}
use Rattle.sheets.proofs.calls.values.Goals as goal

pub returns-then-at_line_end : goal.returns-then-at_line_end
returns-then-at_line_end g c =
    sym c.loop.invariant ∙ values_end g.V.Value.reads c.loop.counter (vec_items c.loop.values) (state_of c.loop.scanner) (search rules) c.if-at_line_end.ensures

pub returns-in_err-read : goal.returns-in_err-read
returns-in_err-read g c =
    passed_on_or _ _ _ _ _ c.from_residual.ensures.1
    (like_or _ _ _ (sym c.loop.invariant) (values_stop g.V.Value.reads c.loop.counter (vec_items c.loop.values) (state_of c.loop.scanner) (search rules) c.if-at_line_end.ensures _ (told_or _ _ c.in_err-read.ensures)))

pub loop-preserved : goal.loop-preserved
loop-preserved g c =
    let before = vec_items c.loop.values in
    let value = c.in_ok-read.field-0 in
    let pushed : vec_items c.push.new.self ≡ before ++ value ∷ [] = search rules in
    ap (λ vs. more_values g.V.Value.reads (8 - (c.loop.counter + 1)) vs (state_of c.read.new.scanner)) pushed
    ∙ sym (values_go g.V.Value.reads c.loop.counter before (state_of c.loop.scanner) (search rules) c.if-at_line_end.ensures value (state_of c.read.new.scanner) c.in_ok-read.ensures)
    ∙ c.loop.invariant

pub returns : goal.returns
returns g c =
    sym c.loop.invariant ∙ values_full g.V.Value.reads c.loop.counter (vec_items c.loop.values) (state_of c.loop.scanner) (omega arith)
