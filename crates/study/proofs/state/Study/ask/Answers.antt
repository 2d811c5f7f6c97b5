use Rattle.std.proofs.Common.{[], length, Ok, Err, refl, ap, ◌∙◌}
use Rattle.std.proofs.lemmas.Result.{err_from_is_err_and}
use Rattle.study.specs.Calls.{answered, point_named}
use Rattle.study.specs.Calls.Call.{ask}
use Rattle.study.specs.declared.reply.Report.TheVariants.{Answered}
use Rattle.study.proofs.Doing.{answers, unanswered, unnamed}
use Rattle.study.proofs.state.Study.ask.Goals as goal

pub returns-in_err-point : goal.returns-in_err-point
returns-in_err-point g c =
    let o = g.M.Chain.order in
    let r = g.M.Map.rules in
    let s = c.args.self.now in
    let strip = c.args.strip.now in
    let p = err_from_is_err_and c.from_residual.result c.from_residual.ensures.1 in
    unnamed o r g.met.M.Map.rules_laws s strip [] (ask c.args.values.now) (point_named o r s (length strip) c.args.values.now) (λ e. answered o r s strip [] e (Ok (Answered 1)) s.bounds) refl
    _ _ (p.1 ∙ ap Err p.2) c.in_err-point.ensures

pub returns-in_err-put_and_show : goal.returns-in_err-put_and_show
returns-in_err-put_and_show g c =
    let o = g.M.Chain.order in
    let r = g.M.Map.rules in
    let s = c.args.self.now in
    let strip = c.args.strip.now in
    let p = err_from_is_err_and c.from_residual-in_err-put_and_show.result c.from_residual-in_err-put_and_show.ensures.1 in
    unanswered o r g.met.M.Map.rules_laws s strip [] (ask c.args.values.now) (point_named o r s (length strip) c.args.values.now) (λ e. answered o r s strip [] e (Ok (Answered 1)) s.bounds) refl
    c.in_ok-point.point c.in_ok-point.ensures _ c.put_and_show.new.self c.put_and_show.new.strip c.in_err-put_and_show.ensures.told c.in_err-put_and_show.ensures.moved c.in_err-put_and_show.ensures.shown _ _ (p.1 ∙ ap Err p.2) refl

pub returns : goal.returns
returns g c =
    let o = g.M.Chain.order in
    let r = g.M.Map.rules in
    let s = c.args.self.now in
    let strip = c.args.strip.now in
    answers o r g.met.M.Map.rules_laws s strip [] (ask c.args.values.now) (point_named o r s (length strip) c.args.values.now) (λ e. answered o r s strip [] e (Ok (Answered 1)) s.bounds) refl
    c.in_ok-point.point c.in_ok-point.ensures _ c.put_and_show.new.self c.put_and_show.new.strip c.in_ok-put_and_show.ensures.told c.in_ok-put_and_show.ensures.moved c.in_ok-put_and_show.ensures.shown _ _ s.bounds c.put_and_show.new.self refl refl c.in_ok-put_and_show.ensures.moved.box refl refl
