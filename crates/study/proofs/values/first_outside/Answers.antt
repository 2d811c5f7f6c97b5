use Rattle.std.proofs.Common.{◌≡◌, true, false, rules}
use Rattle.std.proofs.lemmas.Iterator.{first_from_Range}
use Rattle.study.specs.Values.{outside_at}
use Rattle.study.proofs.Firsts.{first_is}
use Rattle.study.proofs.values.first_outside.Goals as goal

pub returns-clause-value : goal.returns-clause-value
returns-clause-value c =
    let test = outside_at c.args.bounds.now c.args.point.now in
    first_is 8 0 test c.find.result
    (first_from_Range _ _ _ _ (λ k. test k ≡ true) (λ k. test k ≡ false) c.find.ensures.ran (λ x q k. search rules) (λ x q k. search rules))
