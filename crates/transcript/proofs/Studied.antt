-- The text of calls on a newly made study, from its first line to its last.
use Rattle.std.proofs.Common.{◌≡◌, ℕ, List, ◌++◌, string_bytes, ap, ap₂, ◌∙◌, subst, append_assoc}
use Rattle.chains.specs.Order.{Order}
use Rattle.maps.specs.Rules.{Rules}
use Rattle.study.specs.Calls.{Call}
use Rattle.study.specs.History.{Run}
use Rattle.transcript.specs.Lines.{kind_line, left_line}
use Rattle.transcript.specs.Opened.{Opened}
use Rattle.transcript.specs.Printed.{blank_record, blank_strip}
use Rattle.transcript.specs.Ran.{CallsTold, stand_of, told_of}
use Rattle.transcript.specs.Studied.{Studied}
use Rattle.transcript.specs.Transcript.{call_lines, ending, starting}
use Rattle.transcript.specs.declared.session.Session.{Session}

module _ {M V : Type 0} (o : Order M V) (r : Rules M) (show : V → List ℕ) (kind : ℕ) (blank : V) (m : M) (allowance : ℕ) (calls : List (Call V)) where
  pub studied : (first last : Session V M) (text : List ℕ) → Opened o r kind blank m allowance first → CallsTold o r show calls first last → text ≡ string_bytes last.text ++ left_line last.study.left → Studied o r show kind m allowance (blank_strip blank) blank_record calls text
  studied first last text opened told end =
      let start = starting o r m allowance (blank_strip blank) blank_record in
      let at_start : stand_of first ≡ start = λ i. record { left = (opened.study i).left; box = (opened.study i).bounds; strip = opened.strip i; log = opened.log i } in
      let lines : call_lines o r first.study.map show (stand_of first) calls ≡ call_lines o r m show start calls = λ i. call_lines o r (opened.study i).map show (at_start i) calls in
      let ends : (ending o r first.study.map (stand_of first) calls).left ≡ (ending o r m start calls).left = λ i. (ending o r (opened.study i).map (at_start i) calls).left in
      record {
        exact =
            end
            ∙ ap₂ (λ x y. x ++ left_line y) (told.exact ∙ ap₂ ◌++◌ opened.text lines) (told.left ∙ ends)
            ∙ append_assoc (kind_line kind) (call_lines o r m show start calls) _;
        history = told.history;
        last = last.study;
        run = subst (λ s. Run o r s told.history last.study) opened.study told.run;
        asked = told.asked;
        lawful = opened.law told.history last.study (subst (λ s. Run o r s told.history last.study) opened.study told.run);
        told =
            end
            ∙ ap (λ x. x ++ left_line last.study.left) (told.told ∙ ap (λ x. x ++ told_of o r show told.history) opened.text)
            ∙ append_assoc (kind_line kind) (told_of o r show told.history) (left_line last.study.left);
      }
