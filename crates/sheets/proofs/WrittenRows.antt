-- A rows sheet that is written by the rules is read back.
use Rattle.std.proofs.Common.{◌≡◌, ℕ, suc, ◌+◌, ◌-◌, ◌≤◌, true, List, [], ◌∷◌, ◌++◌, length, None, Ok, codes, decimal, Result, refl, arith}
use Rattle.std.specs.List.{AllByRecursion}
use Rattle.std.proofs.lemmas.Bool.{and_parts, leb-true}
use Rattle.chains.specs.GradeOrder.{grades_fault}
use Rattle.chains.specs.TickOrder.{within}
use Rattle.chains.specs.LetterLaws.{no_fault}
use Rattle.points.specs.declared.Entry.{Entry}
use Rattle.maps.specs.Replies.{row_sizes}
use Rattle.sheets.specs.CallsBody.{Planned, letter_value}
use Rattle.sheets.specs.Contents.{body_line, body_named}
use Rattle.sheets.specs.RowsBody.{Table, grades_due, grades_line, row_line, rows_body}
use Rattle.sheets.specs.Sheets.{Parses, on_rows, rows_sheet, sheet}
use Rattle.sheets.specs.Written.{Fresh, LetterFits, ProperPlan, ProperRow, ProperTable, RowsReadBack, calls_then, letter_word, letters_at, line_then, lines_then, row_words, written_rows}
use Rattle.sheets.specs.declared.contents.Body.TheVariants.{Rows}
use Rattle.sheets.specs.declared.faults.Fault.TheVariants.{Form}
use Rattle.sheets.specs.declared.faults.Unread.{Unread}
use Rattle.sheets.specs.declared.sheet.Sheet.{Sheet}
use Rattle.sheets.proofs.RowRead.{comes_new}
use Rattle.sheets.proofs.Spaced.{written_line}
use Rattle.sheets.proofs.WrittenCalls.{Known, calls_back, known, small}
use Rattle.sheets.proofs.WrittenContents.{contents_back, file_back, read_back}
use Rattle.sheets.proofs.WrittenDues.{Back, any_name_written, at_words, ends_written, lines_written, named_written, numbered_written}
use Rattle.sheets.proofs.WrittenForms.{decimal_word}
use Rattle.sheets.proofs.WrittenLetters.{letter_back, letter_word_lem, letters_word, letters_written, point_back, text_capitals, text_some}

grades_name : Known (codes "grades")
grades_name = known (codes "grades") (omega arith) refl refl

row_name : Known (codes "row")
row_name = known (codes "row") (omega arith) refl refl

rows_name : Known (codes "rows")
rows_name = known (codes "rows") (omega arith) refl refl

body_back : (n : ℕ) (more : List ℕ) (line : ℕ) → within 1 4097 n ≡ true → body_line (at_words [] (line_then (codes "rows" ∷ decimal n ∷ []) more) line) ≡ Ok (Rows n, at_words [] more (suc line))
unfolding body_line body_named
body_back n more line w =
    let few = small 1 4097 n w (omega arith) in
    rw (written_line (codes "rows") (decimal n ∷ []) [] more line (rows_name.0, (decimal_word n few, tt)), any_name_written (decimal n ∷ []) more (suc line) (codes "rows") rows_name.0 rows_name.1, numbered_written [] more (suc line) 1 4097 n few w, ends_written more (suc line))

module _ (table : Table) (p : ProperTable table) where
  ranged : (1 ≤ table.dims) × (table.dims ≤ 4)
  ranged = let parts = and_parts _ _ p.dims in (leb-true 1 table.dims parts.0, leb-true table.dims 4 parts.1)

  grades_back : (ws : List (List ℕ)) (rest : List ℕ) (line : ℕ) → grades_due (at_words (table.letters ∷ ws) rest line) ≡ Ok (table.letters, at_words ws rest line)
  unfolding grades_due
  grades_back ws rest line =
      let fine : grades_fault table.letters ≡ None = no_fault table.letters p.some p.most p.capital p.distinct in
      rw (letters_written table.letters ws rest line p.some p.capital, fine)

  grades_line_back : (more : List ℕ) (line : ℕ) → grades_line (at_words [] (line_then (codes "grades" ∷ table.letters ∷ decimal table.dims ∷ []) more) line) ≡ Ok ((table.letters, table.dims), at_words [] more (suc line))
  unfolding grades_line
  grades_line_back more line =
      let few = small 1 4 table.dims p.dims (omega arith) in
      rw (written_line (codes "grades") (table.letters ∷ decimal table.dims ∷ []) [] more line (grades_name.0, (letters_word table.letters p.some p.capital, (decimal_word table.dims few, tt))), named_written (table.letters ∷ decimal table.dims ∷ []) more (suc line) (codes "grades") Form grades_name.0 grades_name.1, grades_back (decimal table.dims ∷ []) more (suc line), numbered_written [] more (suc line) 1 4 table.dims few p.dims, ends_written more (suc line))

  row_back : (before : List Entry) (row : Entry) → ProperRow (row_sizes table.dims (length table.letters)) row → Fresh before (row ∷ []) → (left more : List ℕ) (line : ℕ) → row_line table.letters table.dims before (record { left = left; rest = line_then (row_words table.letters table.dims row) more; line = line }) ≡ Ok (row, at_words [] more (suc line))
  unfolding row_line
  row_back before row proper fresh left more line =
      let xs = table.letters in
      let d = table.dims in
      let first = letters_at xs d row.point in
      let second = letters_at xs d row.answer in
      let first_word = letters_word first (text_some xs p.capital p.distinct d ranged.0 ranged.1 row.point proper.0) (text_capitals xs p.capital p.distinct d ranged.0 ranged.1 row.point proper.0) in
      let second_word = letters_word second (text_some xs p.capital p.distinct d ranged.0 ranged.1 row.answer proper.1) (text_capitals xs p.capital p.distinct d ranged.0 ranged.1 row.answer proper.1) in
      rw (written_line (codes "row") (first ∷ second ∷ []) left more line (row_name.0, (first_word, (second_word, tt))), named_written (first ∷ second ∷ []) more (suc line) (codes "row") Form row_name.0 row_name.1, point_back xs p.capital p.distinct d ranged.0 ranged.1 row.point proper.0 (second ∷ []) more (suc line), comes_new before row.point (at_words (second ∷ []) more (suc line)) fresh.0, point_back xs p.capital p.distinct d ranged.0 ranged.1 row.answer proper.1 [] more (suc line), ends_written more (suc line))

  rows_all : (rows before : List Entry) → AllByRecursion (ProperRow (row_sizes table.dims (length table.letters))) rows → Fresh before rows → Back (row_line table.letters table.dims) (row_words table.letters table.dims) before rows
  rows_all [] before h f = tt
  rows_all (row ∷ rows) before h f = (row_back before row h.0 (f.0, tt), rows_all rows (before ++ row ∷ []) h.1 f.1)

  rows_back : (more : List ℕ) (line : ℕ) → rows_body (suc (length table.rows)) (at_words [] (line_then (codes "grades" ∷ table.letters ∷ decimal table.dims ∷ []) (lines_then (row_words table.letters table.dims) table.rows more)) line) ≡ Ok (table, at_words [] more (suc line + length table.rows))
  unfolding rows_body
  rows_back more line =
      let rest : suc (length table.rows) - 1 ≡ length table.rows = omega arith in
      rw (grades_line_back (lines_then (row_words table.letters table.dims) table.rows more) line, rest, lines_written (row_line table.letters table.dims) (row_words table.letters table.dims) table.rows [] more (suc line) (rows_all table.rows [] p.rows p.fresh))

sheet_back : (table : Table) (plan : Planned ℕ) → ProperTable table → ProperPlan LetterFits plan → (line : ℕ) × (sheet (at_words [] (written_rows table plan) 0) ≡ Ok (on_rows table plan, at_words [] [] line))
unfolding sheet rows_sheet
sheet_back table plan p q =
    let n = suc (length table.rows) in
    let k = suc (length plan.calls) in
    (suc (4 + length table.rows) + length plan.calls, rw (contents_back (codes "rows") (Rows n) n k (line_then (codes "grades" ∷ table.letters ∷ decimal table.dims ∷ []) (lines_then (row_words table.letters table.dims) table.rows (calls_then letter_word plan))) (λ rest line. body_back n rest line p.count) q.count, rows_back table p (calls_then letter_word plan) 3, calls_back letter_value letter_word LetterFits letter_word_lem letter_back plan q (4 + length table.rows), file_back (suc (4 + length table.rows) + length plan.calls)))

-- what is written by the rules is read back
pub rows_read_back : (bytes : List ℕ) (r : Result Sheet Unread) → Parses bytes r → RowsReadBack bytes r
rows_read_back bytes r h table plan p q size e = read_back bytes (written_rows table plan) (on_rows table plan) r h (omega arith) size e (sheet_back table plan p q)
