-- The law of studies over a whole file: what is printed tells of the calls of the sheet, each of them lawful.
use Rattle.std.specs.Prelude.{◌≡◌, ℕ, List, [], map, Ok, Err, decimal, Result}
use Rattle.chains.specs.Order.{Order}
use Rattle.maps.specs.JobOrder.{job_order}
use Rattle.sheets.specs.JobsBody.{panel_of}
use Rattle.maps.specs.Recall.{memo_rules, stored}
use Rattle.maps.specs.Response.{job_rules}
use Rattle.maps.specs.RowsMade.{row_order, row_rules}
use Rattle.maps.specs.Rules.{Rules}
use Rattle.sheets.specs.RowsBody.{table_of}
use Rattle.chains.specs.Through.{through}
use Rattle.maps.specs.declared.jobs.panel.Jobs.{Jobs}
use Rattle.maps.specs.declared.memo.store.Memo.{Memo}
use Rattle.maps.specs.declared.rows.table.Rows.{Rows}
use Rattle.sheets.specs.CallsBody.{Planned}
use Rattle.sheets.specs.Reading.{Told}
use Rattle.sheets.specs.Sheets.{Meant, on_jobs, on_rows}
use Rattle.transcript.specs.Printed.{blank_record, blank_strip}
use Rattle.transcript.specs.Studied.{Studied}
use Rattle.transcript.specs.Text.{letter_bytes}
use Rattle.transcript.specs.Transcript.{call_of}

-- a plan was run on a newly made study of a memo, with nothing stored, over this map
pub record PlanRun {M V : Type 0} (o : Order M V) (r : Rules M) (show : V → List ℕ) (kind : ℕ) (blank : V) (m : M) (plan : Planned V) (text : List ℕ) : Type 0 where
  pub memo : Memo M
  pub over : memo.map ≡ m
  pub empty : stored memo ≡ []
  pub studied : Studied (through (λ n. n.map) o) (memo_rules r) show kind memo plan.allow (blank_strip blank) blank_record (map call_of plan.calls) text

-- the map is one that the sheet tells
abbrev pub SheetRun : Meant → List ℕ → Type 0
SheetRun (on_jobs panel plan) text = (m : Jobs) × (panel_of m ≡ panel) × PlanRun job_order job_rules decimal 84 0 m plan text
SheetRun (on_rows table plan) text = (m : Rows) × (table_of m ≡ table) × PlanRun row_order row_rules letter_bytes 71 45 m plan text

-- a bad file makes no call
abbrev pub FileRun : Result Meant Told → List ℕ → Type 0
FileRun (Ok sheet) text = SheetRun sheet text
FileRun (Err told) text = Unit {0}
