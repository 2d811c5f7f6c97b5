-- The words of a line, from the left.
use Rattle.std.specs.Prelude.{ℕ, suc, List, [], ◌∷◌, take, drop, Ok, Err, Result}
use Rattle.sheets.specs.Forms as forms
use Rattle.sheets.specs.Forms.{form_of}
use Rattle.sheets.specs.Lines.{up_to}
use Rattle.sheets.specs.Reading.{Reader, State, Told}
use Rattle.sheets.specs.declared.faults.Fault.TheVariants.{Form}

-- the bytes before the first blank
abbrev pub word_of : List ℕ → List ℕ
word_of left = take (up_to 32 left) left

-- what follows that blank
abbrev pub after_word : List ℕ → List ℕ
after_word left = drop (suc (up_to 32 left)) left

abbrev pub word_from : List ℕ → State → Result (forms.Form × State) Told
word_from [] s = Err (Form, s.line)
word_from (b ∷ bs) s = Ok (form_of (word_of (b ∷ bs)), record { left = after_word (b ∷ bs); rest = s.rest; line = s.line })

-- the next word of the line
unfoldable pub word_due : Reader forms.Form
word_due s = word_from s.left s
