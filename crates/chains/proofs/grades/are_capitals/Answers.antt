use Rattle.std.proofs.Common.{◌∙◌, rules, tests}
use Rattle.std.proofs.lemmas.Iterator.{YieldsList-from_slice}
use Rattle.std.proofs.lemmas.Iterator.Search.{all_from_yields_List}
use Rattle.chains.specs.Letters.{is_capital}
use Rattle.chains.proofs.Letters.{each_capital}
use Rattle.chains.proofs.grades.are_capitals.Goals as goal

pub returns : goal.returns
returns c =
    all_from_yields_List is_capital c.all.new.self _ _ c.all.ensures.ran (YieldsList-from_slice c.args.letters.now cc) (λ x b q k. search (rules, tests))
    ∙ each_capital c.args.letters.now
