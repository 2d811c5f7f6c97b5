use Rattle.std.proofs.Common.{◌-◌, take, rules}
use Rattle.std.proofs.lemmas.List.{take_rest}
use Rattle.sheets.specs.Reading.{state_of}
use Rattle.sheets.proofs.LineSteps.{front_is, word_goes, word_missing}
use Rattle.sheets.proofs.scanner.state.Scanner.word.Goals as goal

pub returns-then-is_empty : goal.returns-then-is_empty
returns-then-is_empty c = rw c.bad.ensures record { read = word_missing (state_of c.args.self.now) (search rules); placed = tt }

pub returns : goal.returns
returns c =
    let left = c.args.self.now.left.now in
    record {
      read = word_goes (state_of c.args.self.now) (take (c.up_to-end.result - 0) left) _ _ c.up_to-end.result c.min.result (search rules) c.up_to-end.ensures.value (front_is left c.up_to-end.result) c.of-word.ensures c.min.ensures (take_rest left c.min.result);
      placed = search rules;
    }
