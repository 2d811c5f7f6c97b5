-- What a plan prints over a map is what it prints over the sheet that tells the map.
use Rattle.std.proofs.Common.{◌≡◌, ℕ, ◌-◌, List, [], ◌∷◌, ◌++◌, map, length, decimal, sym, refl, ap, ◌∙◌, subst, ap₂}
use Rattle.chains.specs.Order.{Order}
use Rattle.points.specs.declared.Entry.{Entry}
use Rattle.maps.specs.JobOrder.{job_order}
use Rattle.sheets.specs.JobsBody.{panel_of}
use Rattle.transcript.specs.Panels.{panel_order, panel_rules}
use Rattle.maps.specs.Recall.{memo_rules}
use Rattle.transcript.specs.Memos.{new_memo}
use Rattle.maps.specs.Response.{job_rules}
use Rattle.maps.specs.RowsMade.{row_order, row_rules}
use Rattle.maps.specs.Rules.{Rules}
use Rattle.sheets.specs.RowsBody.{table_of}
use Rattle.transcript.specs.Tables.{table_order, table_rules}
use Rattle.chains.specs.Through.{through}
use Rattle.maps.specs.declared.jobs.panel.Jobs.{Jobs}
use Rattle.maps.specs.declared.rows.table.Rows.{Rows}
use Rattle.transcript.proofs.Twins.{Alike, memo_alike, panel_alike, table_alike}
use Rattle.sheets.specs.CallsBody.{Planned}
use Rattle.sheets.specs.Sheets.{Meant, on_jobs, on_rows}
use Rattle.study.specs.Calls.{Call}
use Rattle.study.specs.History.{whole_box}
use Rattle.transcript.proofs.Alike.{deed_alike}
use Rattle.transcript.specs.Lawfully.{PlanRun, SheetRun}
use Rattle.transcript.specs.Lines.{done_name, kind_line, left_line, reply_line}
use Rattle.transcript.specs.Printed.{blank_record, blank_strip, plan_text, sheet_text}
use Rattle.transcript.specs.Text.{letter_bytes}
use Rattle.transcript.specs.Transcript.{Stand, after, call_lines, call_of, due_at, ending, lent, line_at, returned, starting, transcript}

-- calls on maps that cannot be told apart print alike
module _ {M N V : Type 0} (o : Order M V) (r : Rules M) (m : M) (o' : Order N V) (r' : Rules N) (n : N) (a : Alike o r m o' r' n) (show : V → List ℕ) where
  due_alike : (t : Stand V) (call : Call V) → due_at o r m t call ≡ due_at o' r' n t call
  due_alike t call = deed_alike o r m o' r' n a t.left t.box t.strip (lent call t.log) call

  after_alike : (t : Stand V) (call : Call V) → after o r m t call ≡ after o' r' n t call
  after_alike t call =
      ap (λ d. record { left = t.left - length d.questions; box = d.box; strip = d.strip; log = returned call t.log d.log }) (due_alike t call)

  line_alike : (t : Stand V) (call : Call V) → line_at o r m show t call ≡ line_at o' r' n show t call
  line_alike t call = ap₂ (λ d deed. reply_line show d (done_name call) deed.reply deed.strip) a.dims (due_alike t call)

  lines_alike : (t : Stand V) (calls : List (Call V)) → call_lines o r m show t calls ≡ call_lines o' r' n show t calls
  lines_alike t [] = refl
  lines_alike t (call ∷ calls) =
      ap₂ (λ x y. x ++ y) (line_alike t call) (ap (λ u. call_lines o r m show u calls) (after_alike t call) ∙ lines_alike (after o' r' n t call) calls)

  ends_alike : (t : Stand V) (calls : List (Call V)) → ending o r m t calls ≡ ending o' r' n t calls
  ends_alike t [] = refl
  ends_alike t (call ∷ calls) = ap (λ u. ending o r m u calls) (after_alike t call) ∙ ends_alike (after o' r' n t call) calls

  pub transcript_alike : (kind allowance : ℕ) (strip : List V) (log : List Entry) (calls : List (Call V)) → transcript o r m show kind (starting o r m allowance strip log) calls ≡ transcript o' r' n show kind (starting o' r' n allowance strip log) calls
  transcript_alike kind allowance strip log calls =
      let start : starting o r m allowance strip log ≡ starting o' r' n allowance strip log = ap (λ sizes. record { left = allowance; box = whole_box sizes; strip = strip; log = log }) a.sizes in
      ap (λ t. transcript o r m show kind t calls) start
      ∙ ap₂ (λ x y. kind_line kind ++ (x ++ left_line y.left)) (lines_alike (starting o' r' n allowance strip log) calls) (ends_alike (starting o' r' n allowance strip log) calls)

module _ {M N V : Type 0} (o : Order M V) (r : Rules M) (m : M) (o' : Order N V) (r' : Rules N) (n : N) (a : Alike o r m o' r' n) (show : V → List ℕ) where
  -- what was run over a map is what is printed over one that cannot be told apart
  pub plan_exact : (kind : ℕ) (blank : V) (plan : Planned V) (text : List ℕ) → PlanRun o r show kind blank m plan text → text ≡ plan_text o' r' show kind blank n plan
  plan_exact kind blank plan text p =
      let below : Alike o r p.memo.map o' r' n = subst (λ x. Alike o r x o' r' n) (sym p.over) a in
      p.studied.exact
      ∙ transcript_alike (through (λ l. l.map) o) (memo_rules r) p.memo (through (λ l. l.map) o') (memo_rules r') (new_memo n)
      (memo_alike o r p.memo o' r' (new_memo n) p.empty refl below) show kind plan.allow (blank_strip blank) blank_record (map call_of plan.calls)

-- what is promised of a result that is made, of both kinds of map
pub record TextOf (sheet : Meant) (text : List ℕ) : Type 0 where
  pub exact : text ≡ sheet_text sheet
  pub lawful : SheetRun sheet text

pub jobs_text : (sheet : Meant) (m : Jobs) (plan : Planned ℕ) (text : List ℕ) → sheet ≡ on_jobs (panel_of m) plan → PlanRun job_order job_rules decimal 84 0 m plan text → TextOf sheet text
jobs_text sheet m plan text e p =
    subst (λ x. TextOf x text) (sym e)
    (record { exact = plan_exact job_order job_rules m panel_order panel_rules (panel_of m) (panel_alike m) decimal 84 0 plan text p; lawful = (m, refl, p) })

pub rows_text : (sheet : Meant) (m : Rows) (plan : Planned ℕ) (text : List ℕ) → sheet ≡ on_rows (table_of m) plan → PlanRun row_order row_rules letter_bytes 71 45 m plan text → TextOf sheet text
rows_text sheet m plan text e p =
    subst (λ x. TextOf x text) (sym e)
    (record { exact = plan_exact row_order row_rules m table_order table_rules (table_of m) (table_alike m) letter_bytes 71 45 plan text p; lawful = (m, refl, p) })
