use Rattle.std.proofs.Common.{Err, refl, ap, ◌∙◌, rules}
use Rattle.std.proofs.lemmas.Result.{err_from_is_err_and}
use Rattle.points.specs.Points.{first_above}
use Rattle.study.specs.Calls.{floor_at}
use Rattle.study.specs.Calls.Call.{raise}
use Rattle.study.proofs.Sided.{outside, right_side, untold, wrong_side}
use Rattle.study.proofs.state.Study.raise.Goals as goal

pub returns-in_err-point : goal.returns-in_err-point
returns-in_err-point g c =
    let p = err_from_is_err_and c.from_residual.result c.from_residual.ensures.1 in
    outside g.M.Chain.order g.M.Map.rules g.met.M.Map.rules_laws c.args.self.now c.args.strip.now c.args.values.now (raise c.args.values.now) floor_at (λ e. first_above e.point e.answer) refl
    _ _ (p.1 ∙ ap Err p.2) c.in_err-point.ensures

pub returns-in_err-answer : goal.returns-in_err-answer
returns-in_err-answer g c =
    let p = err_from_is_err_and c.from_residual-in_err-answer.result c.from_residual-in_err-answer.ensures.1 in
    untold g.M.Chain.order g.M.Map.rules g.met.M.Map.rules_laws c.args.self.now c.args.strip.now c.args.values.now (raise c.args.values.now) floor_at (λ e. first_above e.point e.answer) refl
    c.in_ok-point.point c.in_ok-point.ensures _ c.put_and_show.new.self c.put_and_show.new.strip c.in_err-answer.ensures.told c.in_err-answer.ensures.moved c.in_err-answer.ensures.shown _ _ (p.1 ∙ ap Err p.2) refl

pub returns-in_err-at_most : goal.returns-in_err-at_most
returns-in_err-at_most g c =
    let p = err_from_is_err_and c.from_residual-in_err-at_most.result c.from_residual-in_err-at_most.ensures.1 in
    wrong_side g.M.Chain.order g.M.Map.rules g.met.M.Map.rules_laws c.args.self.now c.args.strip.now c.args.values.now (raise c.args.values.now) floor_at (λ e. first_above e.point e.answer) refl
    c.in_ok-point.point c.in_ok-point.ensures _ c.put_and_show.new.self c.put_and_show.new.strip c.in_ok-answer.ensures.told c.in_ok-answer.ensures.moved c.in_ok-answer.ensures.shown c.in_ok-answer.answer refl
    _ _ (p.1 ∙ ap Err p.2) c.in_err-at_most.ensures

pub returns : goal.returns
returns g c =
    right_side g.M.Chain.order g.M.Map.rules g.met.M.Map.rules_laws c.args.self.now c.args.strip.now c.args.values.now (raise c.args.values.now) floor_at (λ e. first_above e.point e.answer) refl
    c.in_ok-point.point c.in_ok-point.ensures _ c.put_and_show.new.self c.put_and_show.new.strip c.in_ok-answer.ensures.told c.in_ok-answer.ensures.moved c.in_ok-answer.ensures.shown c.in_ok-answer.answer refl
    c.in_ok-at_most.ensures _ (search rules) refl refl
