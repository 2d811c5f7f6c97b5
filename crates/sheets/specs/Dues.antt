-- What may be due next in a line: a name, a number in a range, letters, a mark, or nothing more.
use Rattle.std.specs.Prelude.{ℕ, cond, List, [], ◌∷◌, Some, None, Ok, Err, Option}
use Rattle.std.specs.Str.{bytes_eq}
use Rattle.chains.specs.TickOrder.{within}
use Rattle.sheets.specs.Forms.{letters_of, mark_of, name_of, number_of}
use Rattle.sheets.specs.Lines.{next_line}
use Rattle.sheets.specs.Reading.{Reader, ◌>>=◌, ◌>>◌, give, refuse}
use Rattle.sheets.specs.Words.{word_due}
use Rattle.sheets.specs.declared.faults.Fault.{Fault}
use Rattle.sheets.specs.declared.faults.Fault.TheVariants.{Form, Range}

-- a word of the form due; any other is refused
abbrev pub of_form : {X : Type 0} → Option X → Reader X
of_form None = refuse Form
of_form (Some x) = give x

unfoldable pub any_name : Reader (List ℕ)
any_name = word_due >>= λ form. of_form (name_of form)

unfoldable pub any_number : Reader ℕ
any_number = word_due >>= λ form. of_form (number_of form)

unfoldable pub any_letters : Reader (List ℕ)
any_letters = word_due >>= λ form. of_form (letters_of form)

unfoldable pub any_mark : Reader ℕ
any_mark = word_due >>= λ form. of_form (mark_of form)

-- the name that is due; another has the fault wrong
unfoldable pub named : List ℕ → Fault → Reader (Unit {0})
named due wrong = any_name >>= λ text. cond (bytes_eq text due) (give tt) (refuse wrong)

-- a number from low to high
unfoldable pub numbered : ℕ → ℕ → Reader ℕ
numbered low high = any_number >>= λ n. cond (within low high n) (give n) (refuse Range)

abbrev pub end_from : List ℕ → Reader (Unit {0})
end_from [] s = Ok (tt, s)
end_from (b ∷ bs) s = Err (Form, s.line)

-- no word is over
unfoldable pub line_ends : Reader (Unit {0})
line_ends s = end_from s.left s

-- a line of a name and a number
unfoldable pub number_line : List ℕ → Fault → ℕ → ℕ → Reader ℕ
number_line due wrong low high = do
  next_line
  named due wrong
  n ← numbered low high
  line_ends
  give n
