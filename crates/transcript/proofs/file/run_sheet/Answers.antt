use Rattle.std.proofs.Common.{string_bytes, ap}
use Rattle.sheets.specs.CallsBody.{planned_of}
use Rattle.sheets.specs.Sheets.{meant_by}
use Rattle.std.proofs.lemmas.Result.{IfOk-weaker}
use Rattle.transcript.proofs.Filed.{jobs_text, rows_text}
use Rattle.transcript.proofs.file.run_sheet.Goals as goal

pub returns-in-Jobs : goal.returns-in-Jobs
returns-in-Jobs c =
    let plan = c.in-Jobs.plan in
    let e = ap meant_by c.in-Jobs.is in
    record {
      exact = IfOk-weaker c.run_plan.result _ _ (λ text p. (jobs_text _ plan.map (planned_of plan) (string_bytes text) e p).exact) c.run_plan.ensures;
      lawful = IfOk-weaker c.run_plan.result _ _ (λ text p. (jobs_text _ plan.map (planned_of plan) (string_bytes text) e p).lawful) c.run_plan.ensures;
    }

pub returns-in-Rows : goal.returns-in-Rows
returns-in-Rows c =
    let plan = c.in-Rows.plan in
    let e = ap meant_by c.in-Rows.is in
    record {
      exact = IfOk-weaker c.run_plan-in-Rows.result _ _ (λ text p. (rows_text _ plan.map (planned_of plan) (string_bytes text) e p).exact) c.run_plan-in-Rows.ensures;
      lawful = IfOk-weaker c.run_plan-in-Rows.result _ _ (λ text p. (rows_text _ plan.map (planned_of plan) (string_bytes text) e p).lawful) c.run_plan-in-Rows.ensures;
    }
