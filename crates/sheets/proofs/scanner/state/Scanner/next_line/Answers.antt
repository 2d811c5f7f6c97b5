use Rattle.std.proofs.Common.{◌≡◌, ◌+◌, ◌≤◌, true, false, ◌⊎◌, length, take, drop, sym, ap, ◌∙◌, inl, inr, add-one, arith, rules}
use Rattle.std.proofs.lemmas.List.{take_rest}
use Rattle.sheets.specs.Lines.{line_from, neat, next_line}
use Rattle.sheets.proofs.LineSteps.{front_is, line_fails, line_goes, line_missing}
use Rattle.sheets.proofs.scanner.state.Scanner.next_line.Goals as goal
use Rattle.sheets.proofs.scanner.state.Scanner.next_line.Goals.{then-end-rest-via-then-end-rest, then-end-rest-via-else-end-rest+then-not-is_neat}

pub returns-then-is_empty : goal.returns-then-is_empty
unfolding next_line
returns-then-is_empty c =
    let rest = c.args.self.now.rest.now in
    ap (line_from rest) (sym (add-one c.args.self.now.line)) ∙ line_missing rest (c.args.self.now.line + 1) (search rules)

pub returns-then-end-rest : goal.returns-then-end-rest
unfolding next_line
returns-then-end-rest c =
    let rest = c.args.self.now.rest.now in
    let end = c.up_to-end.result in
    let failed : (length rest ≤ end) ⊎ (neat true (take end rest) ≡ false) =
    elim c.then-end-rest.branch [ then-end-rest-via-then-end-rest w ↦ inl (omega arith) | then-end-rest-via-else-end-rest+then-not-is_neat w ↦ inr (ap (neat true) (sym (front_is rest end)) ∙ sym w.if-not-is_neat.ensures) ] in
    ap (line_from rest) (sym (add-one c.args.self.now.line)) ∙ line_fails rest end (c.args.self.now.line + 1) (search rules) c.up_to-end.ensures.value failed

pub returns : goal.returns
unfolding next_line
returns c =
    let rest = c.args.self.now.rest.now in
    let end = c.up_to-end.result in
    ap (line_from rest) (sym (add-one c.args.self.now.line))
    ∙ line_goes rest _ _ end (c.args.self.now.line + 1) c.up_to-end.ensures.value (omega arith) (ap (neat true) (sym (front_is rest end)) ∙ sym c.if-not-is_neat.ensures) (front_is rest end) (take_rest rest (end + 1) ∙ ap (λ k. drop k rest) (add-one end))
