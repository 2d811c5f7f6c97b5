use Rattle.std.proofs.Common.{◌≡◌, ◌-◌, map, vec_items}
use Rattle.sheets.specs.Many.{many_lines, more_lines}
use Rattle.sheets.specs.Reading.{state_of}
use Rattle.sheets.proofs.lines.lines.Given as goal

-- the lines so far, and those to come, are those of the start
abbrev pub invariant-loop : goal.invariant-loop
invariant-loop g l =
    more_lines (λ _. g.L.Line.reads) (l.count - l.counter) (map g.L.Line.meaning (vec_items l.lines)) (state_of l.scanner)
    ≡ many_lines (λ _. g.L.Line.reads) l.count (state_of l.initial.scanner)
