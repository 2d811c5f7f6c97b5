use Rattle.std.proofs.Common.{◌≡◌, ◌≤◌, length, take, ap, ◌∙◌, arith, rules}
use Rattle.std.proofs.lemmas.List.{length-take-le}
use Rattle.study.specs.Calls.{pair_ranks}
use Rattle.study.specs.Values.{written}
use Rattle.study.proofs.Cells.{written_four}
use Rattle.study.proofs.state.Study.show_pair.Goals as goal

pub returns : goal.returns
returns g c =
    let member = g.M.Chain.order.member c.args.self.now.map in
    let laws = g.met.M.Map.rules_laws.counted c.args.self.now.map in
    let n = c.dims-dims.result in
    let low = c.args.low.now in
    let high = c.args.high.now in
    let strip = c.args.strip.now in
    let few : n ≤ 8 = omega (arith, laws, c.dims-dims.ensures) in
    let lp : length low.point ≡ 8 = search rules in
    let la : length low.answer ≡ 8 = search rules in
    let hp : length high.point ≡ 8 = search rules in
    let whole =
    written_four member (take n low.point) (take n low.answer) (take n high.point) (take n high.answer) strip n
    c.write.new.strip c.write-2.new.strip c.write-3.new.strip c.write-4.new.strip
    (length-take-le n low.point (omega arith)) (length-take-le n low.answer (omega arith)) (length-take-le n high.point (omega arith)) (omega (arith, c.requires, c.dims-dims.ensures))
    c.write.ensures
    c.write-2.ensures
    c.write-3.ensures
    c.write-4.ensures in
    whole ∙ ap (λ k. written member (pair_ranks k low high) strip) c.dims-dims.ensures
