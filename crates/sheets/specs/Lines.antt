-- Lines: words with one blank between each two, and a line end.
use Rattle.std.specs.Prelude.{ℕ, suc, Bool, true, false, cond, not, ◌&&◌, List, [], ◌∷◌, length, take, drop, Some, None, Ok, Err, Option, Result, ◌==◌, nat_lt}
use Rattle.sheets.specs.Classes.{class_of}
use Rattle.sheets.specs.Reading.{Reader, State, Told, ◌>>◌, give, refuse}
use Rattle.sheets.specs.declared.classes.Class.{Class}
use Rattle.sheets.specs.declared.classes.Class.TheVariants.{LineEnd, Blank, Digit, Capital, Small, Minus, Other}
use Rattle.sheets.specs.declared.faults.Fault.TheVariants.{Text, Contents}

-- how many bytes stand before the first stop, all of them if there is none
abbrev pub up_to : ℕ → List ℕ → ℕ
up_to stop [] = 0
up_to stop (b ∷ bs) = cond (b == stop) 0 (suc (up_to stop bs))

-- whether a word is due after a byte of this class; none where it may not stand, as a blank where a word is due
abbrev pub goes_on : Class → Bool → Option Bool
goes_on LineEnd due = None
goes_on Blank due = cond due None (Some true)
goes_on Digit due = Some false
goes_on Capital due = Some false
goes_on Small due = Some false
goes_on Minus due = Some false
goes_on Other due = None

abbrev pub holds_of : Option Bool → (Bool → Bool) → Bool
holds_of None test = false
holds_of (Some due) test = test due

-- each byte may stand where it does, and no word is due at the end
abbrev pub neat : Bool → List ℕ → Bool
neat due [] = not due
neat due (b ∷ bs) = holds_of (goes_on (class_of b) due) (λ next. neat next bs)

-- the first n bytes are the next line, if it is neat and its line end follows
abbrev pub cut : ℕ → List ℕ → ℕ → Result (Unit {0} × State) Told
cut n bs line =
    cond (nat_lt n (length bs) && neat true (take n bs))
    (Ok (tt, record { left = take n bs; rest = drop (suc n) bs; line = line }))
    (Err (Text, line))

abbrev pub line_from : List ℕ → ℕ → Result (Unit {0} × State) Told
line_from [] line = Err (Contents, line)
line_from (b ∷ bs) line = cut (up_to 10 (b ∷ bs)) (b ∷ bs) line

-- goes to the next line; it is missing where no byte is left
unfoldable pub next_line : Reader (Unit {0})
next_line s = line_from s.rest (suc s.line)

abbrev pub file_end_from : List ℕ → Reader (Unit {0})
file_end_from [] = give tt
file_end_from (b ∷ bs) = next_line >> refuse Contents

-- no line is over
unfoldable pub file_ends : Reader (Unit {0})
file_ends s = file_end_from s.rest s
