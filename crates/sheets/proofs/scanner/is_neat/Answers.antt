use Rattle.std.proofs.Common.{◌≡◌, get_or, Some, None, sym, ap, ◌∙◌, rules}
use Rattle.sheets.specs.Classes.{class_of}
use Rattle.sheets.specs.Lines.{goes_on}
use Rattle.sheets.proofs.Scans.{neat_ends, neat_goes, neat_stops}
use Rattle.sheets.proofs.scanner.is_neat.Goals as goal

pub returns-in-None : goal.returns-in-None
returns-in-None c =
    let stops : goes_on (class_of (get_or c.args.text.now c.loop-byte.byte-index 0)) c.loop-byte.due ≡ None =
    ap (λ k. goes_on k c.loop-byte.due) (sym c.class_of.ensures) ∙ sym c.in-None.ensures in
    sym (neat_stops c.loop-byte.due c.args.text.now c.loop-byte.byte-index (search rules) stops) ∙ c.loop-byte.invariant

pub loop-byte-preserved : goal.loop-byte-preserved
loop-byte-preserved c =
    let goes : goes_on (class_of (get_or c.args.text.now c.loop-byte.byte-index 0)) c.loop-byte.due ≡ Some c.in-Some.next =
    ap (λ k. goes_on k c.loop-byte.due) (sym c.class_of.ensures) ∙ sym c.in-Some.ensures in
    sym (neat_goes c.loop-byte.due c.in-Some.next c.args.text.now c.loop-byte.byte-index (search rules) goes) ∙ c.loop-byte.invariant

pub returns : goal.returns
returns c = sym (neat_ends c.loop-byte.due c.args.text.now c.loop-byte.byte-index (search rules)) ∙ c.loop-byte.invariant
