-- What a call on a newly made study of a table over grades A and B leaves, bare or under a memo, as a closed term.
use Rattle.std.proofs.Common.{◌≡◌, ℕ, List, [], ◌∷◌, refl, ap, ◌∙◌}
use Rattle.chains.specs.Through.{through}
use Rattle.points.specs.declared.Entry.{Entry}
use Rattle.maps.specs.Recall.{memo_rules}
use Rattle.maps.specs.RowsMade.{row_order, row_rules}
use Rattle.maps.specs.declared.memo.store.Memo.{Memo}
use Rattle.maps.specs.declared.rows.table.Rows.{Rows}
use Rattle.sheets.specs.RowsBody.{Table, table_of}
use Rattle.study.specs.Calls.{Call, Deed, deed}
use Rattle.study.specs.History.{made}
use Rattle.transcript.specs.Memos.{new_memo}
use Rattle.transcript.specs.Tables.{table_order, table_rules}
use Rattle.transcript.proofs.Alike.{new_alike}
use Rattle.transcript.proofs.Twins.{memo_alike, table_alike}
use Rattle.worked.specs.Examples.{blanks, over_memo, over_rows, strip}
use Rattle.worked.specs.Sheets.{A, B, MemoTableOf, TableOf}

-- the table of one coordinate that lists these rows
abbrev pub bare : List Entry → Table
bare rows = record { letters = A ∷ B ∷ []; dims = 1; rows = rows }

-- what is left by a call on a newly made study of a table, and of a memo over one
abbrev pub on_table : Table → ℕ → ℕ → Call ℕ → Deed ℕ
on_table t allowance room = deed table_order table_rules (made table_rules t allowance) strip (blanks room)

abbrev pub on_fresh_memo : Table → ℕ → ℕ → Call ℕ → Deed ℕ
on_fresh_memo t allowance room = deed (through (λ n. n.map) table_order) (memo_rules table_rules) (made (memo_rules table_rules) (new_memo t) allowance) strip (blanks room)

table_is : (rows : List Entry) (m : Rows) → TableOf rows m → table_of m ≡ bare rows
table_is rows m h i = record { letters = h.grades i; dims = h.dims i; rows = h.lists i }

-- every newly made study of such a table, or of a memo over one, is as good as that one
pub on_table_lem : (rows : List Entry) (m : Rows) → TableOf rows m → (allowance room : ℕ) (call : Call ℕ) → over_rows m allowance room call ≡ on_table (bare rows) allowance room call
on_table_lem rows m h allowance room call =
    new_alike row_order row_rules m table_order table_rules (table_of m) (table_alike m) allowance strip (blanks room) call
    ∙ ap (λ t. on_table t allowance room call) (table_is rows m h)

pub on_memo : (rows : List Entry) (m : Memo Rows) → MemoTableOf rows m → (allowance room : ℕ) (call : Call ℕ) → over_memo m allowance room call ≡ on_fresh_memo (bare rows) allowance room call
on_memo rows m h allowance room call =
    let below = new_memo (table_of m.map) in
    new_alike (through (λ n. n.map) row_order) (memo_rules row_rules) m (through (λ n. n.map) table_order) (memo_rules table_rules) below
    (memo_alike row_order row_rules m table_order table_rules below h.empty refl (table_alike m.map)) allowance strip (blanks room) call
    ∙ ap (λ t. on_fresh_memo t allowance room call) (table_is rows m.map h.below)
