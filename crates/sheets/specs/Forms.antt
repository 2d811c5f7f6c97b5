-- The form of a word, which follows from its bytes alone.
use Rattle.std.specs.Prelude.{ℕ, ◌+◌, ◌-◌, ◌*◌, Bool, true, cond, not, ◌&&◌, ◌||◌, List, [], ◌∷◌, length, Some, None, Option, ◌==◌, nat_le, slice_index}
use Rattle.sheets.specs.Classes.{class_of, same_class}
use Rattle.sheets.specs.declared.classes.Class.{Class}
use Rattle.sheets.specs.declared.classes.Class.TheVariants.{Digit, Capital, Small}
use Rattle.sheets.specs.declared.word.Word.{Word}
use Rattle.sheets.specs.declared.word.Word.TheVariants.{Name, Number, Letters, Mark, Mixed}

-- what a word can be: a name, a number, letters, a mark, or none of these
pub data Form : Type 0 where
  name : List ℕ → Form
  number : ℕ → Form
  letters : List ℕ → Form
  mark : ℕ → Form
  mixed : Form

-- each byte is of this class
abbrev pub all_of : Class → List ℕ → Bool
all_of class [] = true
all_of class (b ∷ bs) = same_class (class_of b) class && all_of class bs

-- the number that digits write after the number n
abbrev pub number_after : ℕ → List ℕ → ℕ
number_after n [] = n
number_after n (b ∷ bs) = number_after (n * 10 + (b - 48)) bs

-- 1 to 10 digits, the first of several not being 0
abbrev pub is_numeral : List ℕ → Bool
is_numeral text =
    all_of Digit text && (nat_le 1 (length text) && (nat_le (length text) 10 && (length text == 1 || not (slice_index text 0 == 48))))

-- h (104), p (112) or - (45) by itself
abbrev pub is_mark : List ℕ → Bool
is_mark text = length text == 1 && (slice_index text 0 == 104 || (slice_index text 0 == 112 || slice_index text 0 == 45))

-- a word that is no mark
abbrev pub plain_form : List ℕ → Form
plain_form text =
    cond (all_of Small text) (name text)
    (cond (all_of Capital text) (letters text)
    (cond (is_numeral text) (number (number_after 0 text)) mixed))

abbrev pub form_of : List ℕ → Form
form_of text = cond (is_mark text) (mark (slice_index text 0)) (plain_form text)

-- what a word of the parser means
abbrev pub meant : Word → Form
meant (Name text) = name text.now
meant (Number digits value) = number value
meant (Letters text) = letters text.now
meant (Mark text code) = mark code
meant (Mixed text) = mixed

abbrev pub name_of : Form → Option (List ℕ)
name_of (name text) = Some text
name_of (number n) = None
name_of (letters text) = None
name_of (mark code) = None
name_of mixed = None

abbrev pub number_of : Form → Option ℕ
number_of (name text) = None
number_of (number n) = Some n
number_of (letters text) = None
number_of (mark code) = None
number_of mixed = None

abbrev pub letters_of : Form → Option (List ℕ)
letters_of (name text) = None
letters_of (number n) = None
letters_of (letters text) = Some text
letters_of (mark code) = None
letters_of mixed = None

abbrev pub mark_of : Form → Option ℕ
mark_of (name text) = None
mark_of (number n) = None
mark_of (letters text) = None
mark_of (mark code) = Some code
mark_of mixed = None
