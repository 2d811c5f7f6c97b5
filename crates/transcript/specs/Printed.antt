-- What a file prints: the transcript of the sheet that it means, or one line that tells its fault.
use Rattle.std.specs.Prelude.{ℕ, List, [], ◌∷◌, map, replicate, Ok, Err, codes, decimal, Result}
use Rattle.chains.specs.Order.{Order}
use Rattle.points.specs.declared.Entry.{Entry}
use Rattle.transcript.specs.Panels.{panel_order, panel_rules}
use Rattle.maps.specs.Recall.{memo_rules}
use Rattle.transcript.specs.Memos.{new_memo}
use Rattle.maps.specs.Rules.{Rules}
use Rattle.transcript.specs.Tables.{table_order, table_rules}
use Rattle.chains.specs.Through.{through}
use Rattle.sheets.specs.CallsBody.{Planned}
use Rattle.sheets.specs.Faults.{fault_number}
use Rattle.sheets.specs.Reading.{Told}
use Rattle.sheets.specs.Sheets.{Meant, on_jobs, on_rows, read_file}
use Rattle.transcript.specs.Text.{letter_bytes, line_of}
use Rattle.transcript.specs.Transcript.{call_of, starting, transcript}

-- the record that a search is lent: 512 entries of zeros
abbrev pub blank_record : List Entry
blank_record = replicate 512 (record { point = replicate 8 0; answer = replicate 8 0 })

-- the strip of 32 cells
abbrev pub blank_strip : {V : Type 0} → V → List V
blank_strip blank = replicate 32 blank

-- what a plan prints over a map, which always stands below a memo with nothing stored
abbrev pub plan_text : {M V : Type 0} → Order M V → Rules M → (V → List ℕ) → ℕ → V → M → Planned V → List ℕ
plan_text o r show kind blank m plan =
    transcript (through (λ n. n.map) o) (memo_rules r) (new_memo m) show kind
    (starting (through (λ n. n.map) o) (memo_rules r) (new_memo m) plan.allow (blank_strip blank) blank_record) (map call_of plan.calls)

-- what a sheet prints: kind T (84) and microseconds, or kind G (71) and letters; the cells are zeros or minuses at first
abbrev pub sheet_text : Meant → List ℕ
sheet_text (on_jobs panel plan) = plan_text panel_order panel_rules decimal 84 0 panel plan
sheet_text (on_rows table plan) = plan_text table_order table_rules letter_bytes 71 45 table plan

-- what is told of a bad file: the number of its fault, and the line
abbrev pub bad_line : Told → List ℕ
bad_line told = line_of (codes "bad") (decimal (fault_number told.0) ∷ (decimal told.1 ∷ []))

abbrev pub text_of : Result Meant Told → List ℕ
text_of (Ok sheet) = sheet_text sheet
text_of (Err told) = bad_line told

-- what the bytes of a file print
abbrev pub printed : List ℕ → List ℕ
printed bytes = text_of (read_file bytes)
