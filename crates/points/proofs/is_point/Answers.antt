use Rattle.std.proofs.Common.{rules, tests}
use Rattle.std.proofs.lemmas.Iterator.{YieldsList-from_slice, YieldsList-from_zip}
use Rattle.std.proofs.lemmas.Iterator.Search.{all_from_yields_List}
use Rattle.points.proofs.Paired.{below, point_from_pairs}
use Rattle.points.proofs.is_point.Goals as goal

pub returns : goal.returns
returns c =
    point_from_pairs c.args.sizes.now c.args.ranks.now _
    (all_from_yields_List below c.all.new.self _ _ c.all.ensures.ran (YieldsList-from_zip (YieldsList-from_slice c.args.ranks.now cc) (YieldsList-from_slice c.args.sizes.now cc)) (λ x b q k. search (rules, tests)))
    (search rules) (search rules)
