use Rattle.std.proofs.Common.{rules, tests}
use Rattle.std.proofs.lemmas.Iterator.{YieldsList-from_slice, YieldsList-from_zip}
use Rattle.std.proofs.lemmas.Iterator.Search.{position_from_yields_List}
use Rattle.points.proofs.Paired.{above, first_from_pairs}
use Rattle.points.proofs.first_above.Goals as goal

pub returns-clause-value : goal.returns-clause-value
returns-clause-value c =
    first_from_pairs c.args.p.now c.args.q.now _
    (position_from_yields_List above c.position.new.self _ _ c.position.ensures.ran (YieldsList-from_zip (YieldsList-from_slice c.args.p.now cc) (YieldsList-from_slice c.args.q.now cc)) (λ x b q k. search (rules, tests)))
