-- Text as bytes: what is appended to it, and how words make a line.
use Rattle.std.specs.Prelude.{◌≡◌, ℕ, List, [], ◌∷◌, ◌++◌, string_bytes, Result, String, OnOk}
use Rattle.std.proofs.Math.Utf8.{encode}
use Rattle.std.specs.declared.alloc.AllocError.{AllocError}
use Rattle.std.specs.declared.alloc.Global.{Global}

-- these bytes stand behind what was there, unless memory was wanting
abbrev pub Appended : String Global → List ℕ → Result (Unit {0}) AllocError → String Global → Type 0
Appended before bytes r after = OnOk r (string_bytes after ≡ string_bytes before ++ bytes)

-- a letter is printed as itself
abbrev pub letter_bytes : ℕ → List ℕ
letter_bytes letter = encode letter

-- words, each behind a blank
abbrev pub words_on : List (List ℕ) → List ℕ
words_on [] = []
words_on (w ∷ ws) = 32 ∷ (w ++ words_on ws)

-- a line of words
abbrev pub line_of : List ℕ → List (List ℕ) → List ℕ
line_of first ws = first ++ (words_on ws ++ 10 ∷ [])
