-- Written words are what was due.
use Rattle.std.proofs.Common.{◌≡◌, ℕ, suc, ◌+◌, ◌^◌, ◌<◌, true, List, [], ◌∷◌, ◌++◌, length, Ok, decimal, refl, ap, ◌∙◌, add-zero, add-suc, suc-add}
use Rattle.std.specs.Str.{bytes_eq}
use Rattle.std.proofs.lemmas.Slice.Eq.{bytes_eq-Decides}
use Rattle.std.proofs.lemmas.List.{append_assoc, append-nil}
use Rattle.chains.specs.TickOrder.{within}
use Rattle.sheets.specs.Dues.{any_mark, any_name, any_number, line_ends, named, number_line, numbered}
use Rattle.sheets.specs.Forms.{form_of, mark, name}
use Rattle.sheets.specs.Many.{more_lines}
use Rattle.sheets.specs.Reading.{Reader, State, and_then}
use Rattle.sheets.specs.Written.{line_then, lines_then, spaced}
use Rattle.sheets.specs.declared.faults.Fault.{Fault}
use Rattle.sheets.proofs.Spaced.{IsWord, written_line, written_word}
use Rattle.sheets.proofs.WrittenForms.{decimal_form, decimal_word}

-- a line of which these words are left
abbrev pub at_words : List (List ℕ) → List ℕ → ℕ → State
at_words ws rest line = record { left = spaced ws; rest = rest; line = line }

module _ (ws : List (List ℕ)) (rest : List ℕ) (line : ℕ) where
  pub any_name_written : (w : List ℕ) → IsWord w → form_of w ≡ name w → any_name (at_words (w ∷ ws) rest line) ≡ Ok (w, at_words ws rest line)
  unfolding any_name
  any_name_written w h f = rw (written_word w ws rest line h, f)

  pub named_written : (w : List ℕ) (wrong : Fault) → IsWord w → form_of w ≡ name w → named w wrong (at_words (w ∷ ws) rest line) ≡ Ok (tt, at_words ws rest line)
  unfolding named
  named_written w wrong h f =
      let same : bytes_eq w w ≡ true = (bytes_eq-Decides w w).1 refl in
      rw (any_name_written w h f, same)

  pub numbered_written : (low high n : ℕ) → n < 10 ^ 10 → within low high n ≡ true → numbered low high (at_words (decimal n ∷ ws) rest line) ≡ Ok (n, at_words ws rest line)
  unfolding numbered any_number
  numbered_written low high n h w = rw (written_word (decimal n) ws rest line (decimal_word n h), decimal_form n h, w)

  pub mark_written : (m : ℕ) → IsWord (m ∷ []) → form_of (m ∷ []) ≡ mark m → any_mark (at_words ((m ∷ []) ∷ ws) rest line) ≡ Ok (m, at_words ws rest line)
  unfolding any_mark
  mark_written m h f = rw (written_word (m ∷ []) ws rest line h, f)

pub ends_written : (rest : List ℕ) (line : ℕ) → line_ends (at_words [] rest line) ≡ Ok (tt, at_words [] rest line)
unfolding line_ends
ends_written rest line = refl

-- a line of a name and a number
pub number_line_written : (w : List ℕ) (wrong : Fault) (low high n : ℕ) (left more : List ℕ) (line : ℕ) → IsWord w → form_of w ≡ name w → n < 10 ^ 10 → within low high n ≡ true → number_line w wrong low high (record { left = left; rest = line_then (w ∷ decimal n ∷ []) more; line = line }) ≡ Ok (n, at_words [] more (suc line))
unfolding number_line
number_line_written w wrong low high n left more line h f small inside =
    rw (written_line w (decimal n ∷ []) left more line (h, (decimal_word n small, tt)), named_written (decimal n ∷ []) more (suc line) w wrong h f, numbered_written [] more (suc line) low high n small inside, ends_written more (suc line))

-- several lines, each of which is read back
module _ {X : Type 0} (kind : List X → Reader X) (words : X → List (List ℕ)) where
  abbrev pub Back : List X → List X → Type 0
  Back before [] = Unit {0}
  Back before (x ∷ xs) = ((left more : List ℕ) (line : ℕ) → kind before (record { left = left; rest = line_then (words x) more; line = line }) ≡ Ok (x, at_words [] more (suc line))) × Back (before ++ x ∷ []) xs

  pub lines_written : (xs before : List X) (more : List ℕ) (line : ℕ) → Back before xs → more_lines kind (length xs) before (at_words [] (lines_then words xs more) line) ≡ Ok (before ++ xs, at_words [] more (line + length xs))
  lines_written [] before more line back = rw (append-nil before, add-zero line)
  lines_written (x ∷ xs) before more line back =
      let next = λ (y : X). more_lines kind (length xs) (before ++ y ∷ []) in
      ap (λ r. and_then r next) (back.0 [] (lines_then words xs more) line) ∙ lines_written xs (before ++ x ∷ []) more (suc line) back.1
      ∙ rw (append_assoc before (x ∷ []) xs, suc-add line (length xs), add-suc line (length xs))
