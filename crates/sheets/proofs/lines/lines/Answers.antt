use Rattle.std.proofs.Common.{◌≡◌, ◌+◌, ◌-◌, [], ◌∷◌, ◌++◌, map, vec_items, sym, ap, ◌∙◌, arith, rules}
use Rattle.std.proofs.lemmas.List.{map_push}
use Rattle.sheets.specs.Many.{more_lines}
use Rattle.sheets.specs.Reading.{state_of}
use Rattle.sheets.proofs.ManyLines.{more_ends, more_goes, more_stops}
use Rattle.sheets.proofs.Readings.{like_or, passed_on_or}
use Rattle.sheets.proofs.lines.lines.Goals as goal

pub returns-in_err-read : goal.returns-in_err-read
returns-in_err-read g c =
    passed_on_or _ _ _ _ _ c.from_residual.ensures.1
    (like_or _ _ _ (sym c.loop.invariant) (more_stops (λ _. g.L.Line.reads) c.args.count c.loop.counter (map g.L.Line.meaning (vec_items c.loop.lines)) (state_of c.loop.scanner) (search rules) _ c.in_err-read.ensures))

pub loop-preserved : goal.loop-preserved
loop-preserved g c =
    let before = vec_items c.loop.lines in
    let line = c.in_ok-read.field-0 in
    let pushed : vec_items c.push.new.self ≡ before ++ line ∷ [] = search rules in
    ap (λ xs. more_lines (λ _. g.L.Line.reads) (c.args.count - (c.loop.counter + 1)) xs (state_of c.read.new.scanner)) (ap (map g.L.Line.meaning) pushed ∙ map_push g.L.Line.meaning before line)
    ∙ sym (more_goes (λ _. g.L.Line.reads) c.args.count c.loop.counter (map g.L.Line.meaning before) (state_of c.loop.scanner) (search rules) (g.L.Line.meaning line) (state_of c.read.new.scanner) c.in_ok-read.ensures)
    ∙ c.loop.invariant

pub returns : goal.returns
returns g c =
    sym c.loop.invariant ∙ more_ends (λ _. g.L.Line.reads) c.args.count c.loop.counter (map g.L.Line.meaning (vec_items c.loop.lines)) (state_of c.loop.scanner) (omega arith)
