use Rattle.std.proofs.Common.{◌∙◌, rules, tests}
use Rattle.std.proofs.lemmas.Iterator.{YieldsList-from_slice}
use Rattle.std.proofs.lemmas.Iterator.Search.{all_from_yields_List}
use Rattle.sheets.specs.Classes.{class_of, same_class}
use Rattle.sheets.proofs.ClassTable.{told_same}
use Rattle.sheets.proofs.Scans.{all_is}
use Rattle.sheets.proofs.word.all_of.Goals as goal

pub returns : goal.returns
returns c =
    let text = c.args.text.now in
    let all = all_from_yields_List (λ b. same_class (class_of b) c.args.class) _ _ c.all.result c.all.ensures.ran (YieldsList-from_slice text cc) (λ x b q k. search (rules, tests, told_same)) in
    all ∙ all_is c.args.class text
