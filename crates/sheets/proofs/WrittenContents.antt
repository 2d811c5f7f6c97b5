-- Written contents are read back, and what a written file means is what is parsed.
use Rattle.std.proofs.Common.{◌≡◌, ℕ, suc, ◌<◌, ◌≤◌, true, List, [], ◌∷◌, length, Ok, Err, codes, decimal, Result, sym, refl, ap, ◌∙◌, arith}
use Rattle.chains.specs.TickOrder.{within}
use Rattle.sheets.specs.Contents.{body_line, contents}
use Rattle.sheets.specs.Lines.{file_ends}
use Rattle.sheets.specs.Reading.{Told}
use Rattle.sheets.specs.Sheets.{Meant, Parses, meant_by, read_file, sheet, value_of}
use Rattle.sheets.specs.Written.{ReadAs, line_then}
use Rattle.sheets.specs.declared.contents.Body.{Body}
use Rattle.sheets.specs.declared.faults.Fault.TheVariants.{Contents}
use Rattle.sheets.specs.declared.faults.Unread.{Unread}
use Rattle.sheets.specs.declared.faults.Unread.TheVariants.{Bad, Memory}
use Rattle.sheets.specs.declared.sheet.Sheet.{Sheet}
use Rattle.sheets.proofs.FileRead.{begins}
use Rattle.sheets.proofs.WrittenCalls.{Known, known, small}
use Rattle.sheets.proofs.WrittenDues.{at_words, number_line_written}

pub file_back : (line : ℕ) → file_ends (at_words [] [] line) ≡ Ok (tt, at_words [] [] line)
unfolding file_ends
file_back line = refl

bodies_name : Known (codes "bodies")
bodies_name = known (codes "bodies") (omega arith) refl refl

calls_name : Known (codes "calls")
calls_name = known (codes "calls") (omega arith) refl refl

-- the contents, whichever body they name
pub contents_back : (w : List ℕ) (body : Body) (n k : ℕ) (more : List ℕ) → ((rest : List ℕ) (line : ℕ) → body_line (at_words [] (line_then (w ∷ decimal n ∷ []) rest) line) ≡ Ok (body, at_words [] rest (suc line))) → within 1 200 k ≡ true → contents (at_words [] (line_then (codes "bodies" ∷ decimal 2 ∷ []) (line_then (w ∷ decimal n ∷ []) (line_then (codes "calls" ∷ decimal k ∷ []) more))) 0) ≡ Ok (record { body = body; calls = k }, at_words [] more 3)
unfolding contents
contents_back w body n k more back c =
    rw (number_line_written (codes "bodies") Contents 2 2 2 [] (line_then (w ∷ decimal n ∷ []) (line_then (codes "calls" ∷ decimal k ∷ []) more)) 0 bodies_name.0 bodies_name.1 (omega arith) refl, back (line_then (codes "calls" ∷ decimal k ∷ []) more) 1, number_line_written (codes "calls") Contents 1 200 k [] more 2 calls_name.0 calls_name.1 (small 1 200 k c (omega arith)) c)

read_as : (bytes : List ℕ) (m : Meant) (r : Result Sheet Unread) → Parses bytes r → read_file bytes ≡ Ok m → ReadAs m r
read_as bytes m (Ok s) h e = let same : ◌≡◌ {A = Result Meant Told} (Ok (meant_by s)) (Ok m) = sym h ∙ e in ok_same (meant_by s) m same
  where
    ok_same : (a b : Meant) → ◌≡◌ {A = Result Meant Told} (Ok a) (Ok b) → a ≡ b
    ok_same a b q = cc
read_as bytes m (Err (Bad f line)) h e = absurd (cc)
read_as bytes m (Err Memory) h e = tt

-- a written file whose lines are read back is parsed as what was written
pub read_back : (bytes text : List ℕ) (m : Meant) (r : Result Sheet Unread) → Parses bytes r → 0 < length text → length bytes ≤ 65536 → bytes ≡ text → ((line : ℕ) × (sheet (at_words [] text 0) ≡ Ok (m, at_words [] [] line))) → ReadAs m r
read_back bytes text m r h some size e back =
    let more : 0 < length bytes = rw e some in
    read_as bytes m r h (begins bytes more size ∙ ap (λ b. value_of (sheet (at_words [] b 0))) e ∙ ap value_of back.1)
