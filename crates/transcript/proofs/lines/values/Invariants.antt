use Rattle.std.proofs.Common.{◌≡◌, ◌++◌, map, take, string_bytes}
use Rattle.transcript.specs.Text.{words_on}
use Rattle.transcript.proofs.lines.values.Given as goal

abbrev pub invariant-loop-value : goal.invariant-loop-value
invariant-loop-value g l = string_bytes l.text ≡ string_bytes l.initial.text ++ words_on (map g.V.Printed.bytes (take l.value-index l.values))
