use Rattle.std.proofs.Common.{◌≡◌, ℕ, suc, None, Some, Result, ◌+◌, ◌<◌, length, take, drop, Ok, Err, sym, ap, ◌∙◌, arith}
use Rattle.std.proofs.lemmas.Result.{err_from_is_err_and}
use Rattle.std.specs.Option.{ok_or}
use Rattle.study.specs.declared.reply.Refusal.{Refusal}
use Rattle.std.proofs.lemmas.List.{append-nil, drop_all, length-set, take_more_set}
use Rattle.points.specs.Points.{size_of}
use Rattle.study.specs.Calls.{placed}
use Rattle.study.specs.Values.{ranks_from, used}
use Rattle.study.specs.declared.reply.Refusal.TheVariants.{Value}
use Rattle.study.proofs.Named.{after, point_all, point_more, rank_none, rank_some}
use Rattle.study.proofs.values.point_of.Goals as goal

pub returns-in_err-point : goal.returns-in_err-point
returns-in_err-point g c =
    let rank = g.C.Chain.order.rank c.args.chain.now in
    let values = c.args.values.now in
    let i = c.loop-i.i in
    let p = err_from_is_err_and c.from_residual.result c.from_residual.ensures.1 in
    let told : ◌≡◌ {A = Result ℕ Refusal} (Err c.in_err-point.field-0.0) (ok_or c.used_rank.result (Value c.counted_from_1.result)) = c.in_err-point.ensures.value in
    let none : None ≡ used (size_of c.args.sizes.now i) (rank c.index-values-i.result) = grind (arith, told) in
    let refusal : c.in_err-point.field-0.0 ≡ Value (suc i) = grind (arith, told) in
    let at_i = sym (rank_none rank c.args.sizes.now values i c.index-values-i.result c.loop-i-test.true c.index-values-i.is (take i c.loop-i.point) none) ∙ c.loop-i.invariant.2 in
    p.1 ∙ ap Err (p.2 ∙ refusal) ∙ ap placed at_i

pub loop-i-preserved : goal.loop-i-preserved
loop-i-preserved g c =
    let rank = g.C.Chain.order.rank c.args.chain.now in
    let values = c.args.values.now in
    let i = c.loop-i.i in
    let r = c.in_ok-point.field-0 in
    let room : i < length c.loop-i.point = omega arith in
    let told : ◌≡◌ {A = Result ℕ Refusal} (Ok r) (ok_or c.used_rank.result (Value c.counted_from_1.result)) = c.in_ok-point.ensures.value in
    let some : Some r ≡ used (size_of c.args.sizes.now i) (rank c.index-values-i.result) = grind (arith, told) in (
      length-set c.loop-i.point i r ∙ c.loop-i.invariant.0,
      point_more c.loop-i.point i r (omega arith) c.loop-i.invariant.0 c.loop-i.invariant.1,
      ap (λ rs. after rs (ranks_from rank c.args.sizes.now (i + 1) (drop (i + 1) values))) (take_more_set c.loop-i.point i r room)
          ∙ sym (rank_some rank c.args.sizes.now values i c.index-values-i.result c.loop-i-test.true c.index-values-i.is (take i c.loop-i.point) r some)
          ∙ c.loop-i.invariant.2,
    )

pub returns : goal.returns
returns g c =
    let rank = g.C.Chain.order.rank c.args.chain.now in
    let values = c.args.values.now in
    let i = c.loop-i.i in
    let front = take i c.loop-i.point in
    let all = point_all c.loop-i.point i (length values) (omega arith) c.requires c.loop-i.invariant.0 c.loop-i.invariant.1 in
    let end = ap (λ vs. after front (ranks_from rank c.args.sizes.now i vs)) (drop_all i values c.loop-i-test.false) ∙ ap Ok (append-nil front) in
    ap Ok (sym all) ∙ ap placed (sym end ∙ c.loop-i.invariant.2)
