use Rattle.std.proofs.Common.{◌==◌, rules, tests}
use Rattle.std.proofs.lemmas.Iterator.{YieldsList-from_slice}
use Rattle.std.proofs.lemmas.Iterator.Search.{position_from_yields_List}
use Rattle.chains.proofs.Letters.{place_from_position}
use Rattle.chains.proofs.grades.place_of.Goals as goal

pub returns : goal.returns
returns c =
    place_from_position c.args.letter c.args.letters.now _
    (position_from_yields_List (λ x. x == c.args.letter) c.position.new.self _ _ c.position.ensures.ran (YieldsList-from_slice c.args.letters.now cc) (λ x b q k. search (rules, tests)))
