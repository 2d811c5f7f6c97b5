use Rattle.std.proofs.Common.{◌≡◌, true, drop}
use Rattle.sheets.specs.Lines.{neat}
use Rattle.sheets.proofs.scanner.is_neat.Given as goal

abbrev pub invariant-loop-byte : goal.invariant-loop-byte
invariant-loop-byte l = neat l.due (drop l.byte-index l.text) ≡ neat true l.text
