-- A whole file, from its size on.
use Rattle.std.proofs.Common.{◌≡◌, ℕ, ◌<◌, ◌≤◌, List, [], ◌∷◌, length, Ok, Err, Result, sym, ap, ◌∙◌, arith}
use Rattle.std.proofs.lemmas.Bool.{cond-false, cond-true, le-ltb, lt-ltb}
use Rattle.sheets.specs.Reading.{Reads, State}
use Rattle.sheets.specs.Sheets.{Parses, meant_by, read_file, sheet, sized, value_of}
use Rattle.sheets.specs.declared.faults.Fault.TheVariants.{Text, Size}
use Rattle.sheets.specs.declared.faults.Unread.{Unread}
use Rattle.sheets.specs.declared.faults.Unread.TheVariants.{Bad, Memory}
use Rattle.sheets.specs.declared.sheet.Sheet.{Sheet}

pub large_file : (bytes : List ℕ) → 65536 < length bytes → read_file bytes ≡ Err (Size, 0)
unfolding read_file
large_file bytes h = cond-true _ _ _ (lt-ltb 65536 (length bytes) h)

sized_is : (bytes : List ℕ) → length bytes ≤ 65536 → read_file bytes ≡ sized bytes
unfolding read_file
sized_is bytes h = cond-false _ _ _ (le-ltb 65536 (length bytes) h)

pub empty_file : (bytes : List ℕ) → length bytes ≡ 0 → read_file bytes ≡ Err (Text, 1)
empty_file [] h = sized_is [] (omega arith)
empty_file (b ∷ bs) h = absurd (omega arith)

-- a file that is neither too large nor empty means what its lines mean
pub begins : (bytes : List ℕ) → 0 < length bytes → length bytes ≤ 65536 → read_file bytes ≡ value_of (sheet (record { left = []; rest = bytes; line = 0 }))
begins [] some most = absurd (omega arith)
begins (b ∷ bs) some most = sized_is (b ∷ bs) most

parsed : (bytes : List ℕ) (s after : State) (r : Result Sheet Unread) → read_file bytes ≡ value_of (sheet s) → Reads meant_by (sheet s) r after → Parses bytes r
parsed bytes s after (Ok m) e h = e ∙ ap value_of h
parsed bytes s after (Err (Bad fault line)) e h = e ∙ ap value_of h
parsed bytes s after (Err Memory) e h = tt

-- and it is parsed as they are
pub file_read : (bytes : List ℕ) (s after : State) (r : Result Sheet Unread) → 0 < length bytes → length bytes ≤ 65536 → s ≡ record { left = []; rest = bytes; line = 0 } → Reads meant_by (sheet s) r after → Parses bytes r
file_read bytes s after r some most e h = parsed bytes s after r (begins bytes some most ∙ ap (λ t. value_of (sheet t)) (sym e)) h
