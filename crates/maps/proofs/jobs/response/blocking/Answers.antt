use Rattle.std.proofs.Common.{max, arith, rules, tests}
use Rattle.std.proofs.lemmas.Iterator.{YieldsList-from_slice, YieldsList-from_zip}
use Rattle.std.proofs.lemmas.Iterator.Consumers.{YieldsList-at, fold_from_yields_List}
use Rattle.maps.proofs.Slices.{blocking_fold}
use Rattle.maps.specs.Response.{holdup}
use Rattle.maps.proofs.jobs.response.blocking.Goals as goal

pub returns : goal.returns
returns c =
    let lower = c.args.lower.now in
    let ranks = c.args.ranks.now in
    let folded =
    fold_from_yields_List _ (λ a p. max a (holdup p.0 p.1)) 0 c.fold.result c.fold.ensures.ran
    (YieldsList-from_zip (YieldsList-at c.zip.ensures.first (YieldsList-from_slice lower cc)) (YieldsList-from_slice ranks cc))
    (λ a x b q k. search (rules, tests)) in
    omega (arith, folded, blocking_fold lower ranks 0)
