use Rattle.std.proofs.Common.{◌≡◌, Some, None, sym, refl, ap, ◌∙◌, arith, rules}
use Rattle.std.specs.List.{slice_get}
use Rattle.std.proofs.lemmas.Bool.{cond-false, cond-true}
use Rattle.chains.specs.GradeOrder.{listed}
use Rattle.points.proofs.Filled.{filled_all, filled_more, filled_none}
use Rattle.sheets.specs.RowsBody.{rank_at}
use Rattle.sheets.proofs.RowRead.{listed_ends, listed_goes, listed_stops, rank_is, rank_past}
use Rattle.sheets.proofs.rows.ranks_of.Goals as goal

pub loop-i-init : goal.loop-i-init
loop-i-init c = (filled_none (λ i. rank_at (listed c.args.rows.now.grades) (slice_get c.args.text.now i)) 0, refl)

pub returns-in_err-ranks : goal.returns-in_err-ranks
returns-in_err-ranks c =
    let letters = listed c.args.rows.now.grades in
    let text = c.args.text.now in
    let none : c.from_residual.result ≡ None = search rules in
    let stops = listed_stops letters text c.loop-i.i (search rules) c.in_err-ranks.ensures in
    none ∙ sym (cond-false _ _ _ (sym c.loop-i.invariant.1 ∙ stops))

pub loop-i-preserved : goal.loop-i-preserved
loop-i-preserved c =
    let letters = listed c.args.rows.now.grades in
    let text = c.args.text.now in
    let i = c.loop-i.i in (
      filled_more (λ k. rank_at letters (slice_get text k)) 0 i c.loop-i.ranks c.loop-i.invariant.0 c.in_ok-ranks.field-0 (omega arith) (rank_is letters text i c.in_ok-ranks.field-0 (search rules) c.in_ok-ranks.ensures),
      sym (listed_goes letters text i c.in_ok-ranks.field-0 (search rules) c.in_ok-ranks.ensures) ∙ c.loop-i.invariant.1,
    )

pub returns : goal.returns
returns c =
    let letters = listed c.args.rows.now.grades in
    let text = c.args.text.now in
    let i = c.loop-i.i in
    let filled = filled_all (λ k. rank_at letters (slice_get text k)) 0 i c.loop-i.ranks c.loop-i.invariant.0 (λ k h. rank_past letters text k (omega arith)) in
    ap Some filled ∙ sym (cond-true _ _ _ (sym c.loop-i.invariant.1 ∙ listed_ends letters text i (omega arith)))
