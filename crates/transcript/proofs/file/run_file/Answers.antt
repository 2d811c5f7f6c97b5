use Rattle.std.proofs.Common.{string_bytes, sym, ap, ◌∙◌, subst}
use Rattle.transcript.specs.Lawfully.{FileRun}
use Rattle.transcript.specs.Printed.{text_of}
use Rattle.std.proofs.lemmas.Result.{IfOk-weaker}
use Rattle.transcript.proofs.file.run_file.Goals as goal

pub returns-in-Ok : goal.returns-in-Ok
returns-in-Ok c =
    let e = c.in-Ok.ensures.means in
    record {
      exact = IfOk-weaker c.run_sheet.result _ _ (λ text h. h ∙ sym (ap text_of e)) c.run_sheet.ensures.exact;
      lawful = IfOk-weaker c.run_sheet.result _ _ (λ text h. subst (λ x. FileRun x (string_bytes text)) (sym e) h) c.run_sheet.ensures.lawful;
    }
