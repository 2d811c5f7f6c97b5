use Rattle.std.proofs.Common.{◌≡◌, ◌-◌, [], vec_items}
use Rattle.sheets.specs.CallsBody.{more_values}
use Rattle.sheets.specs.Reading.{state_of}
use Rattle.sheets.proofs.calls.values.Given as goal

abbrev pub invariant-loop : goal.invariant-loop
invariant-loop g l =
    more_values g.V.Value.reads (8 - l.counter) (vec_items l.values) (state_of l.scanner)
    ≡ more_values g.V.Value.reads 8 [] (state_of l.initial.scanner)
