-- The body `calls`: what may be asked, then a line for each call.
use Rattle.std.specs.Prelude.{ℕ, zero, suc, ◌-◌, cond, List, [], ◌∷◌, ◌++◌, map, length, Ok, vec_items, codes, ◌==◌, slice_index}
use Rattle.std.specs.Str.{bytes_eq}
use Rattle.sheets.specs.Dues.{any_letters, any_name, line_ends, number_line, numbered}
use Rattle.sheets.specs.Lines.{next_line}
use Rattle.sheets.specs.Many.{many_lines}
use Rattle.sheets.specs.Reading.{Reader, ◌>>=◌, ◌>>◌, give, refuse}
use Rattle.sheets.specs.declared.calls.Call.{Call}
use Rattle.sheets.specs.declared.calls.Call.TheVariants.{Ask, Raise, Lower, Search}
use Rattle.sheets.specs.declared.calls.Plan.{Plan}
use Rattle.sheets.specs.declared.faults.Fault.TheVariants.{Form}

-- a call as a line tells it
pub data Asked (V : Type 0) : Type 0 where
  asks : List V → Asked V
  raises : List V → Asked V
  lowers : List V → Asked V
  searches : Asked V

abbrev pub asked_of : {V : Type 0} → Call V → Asked V
asked_of (Ask values) = asks (vec_items values)
asked_of (Raise values) = raises (vec_items values)
asked_of (Lower values) = lowers (vec_items values)
asked_of Search = searches

-- a value of a jobs map: microseconds
unfoldable pub tick_value : Reader ℕ
tick_value = numbered 0 4294967295

-- a value of a rows map: one capital letter, listed or not
unfoldable pub letter_value : Reader ℕ
letter_value = any_letters >>= λ text. cond (length text == 1) (give (slice_index text 0)) (refuse Form)

module _ {V : Type 0} (value : Reader V) where
  -- values up to the end of the line, while there is room
  abbrev pub more_values : ℕ → List V → Reader (List V)
  more_values zero before s = Ok (before, s)
  more_values (suc room) before s =
      cond (length s.left == 0) (give before) (value >>= λ v. more_values room (before ++ v ∷ [])) s

  -- up to eight values; a ninth is a word over
  unfoldable pub line_values : Reader (List V)
  line_values = do
    values ← more_values 8 []
    line_ends
    give values

  unfoldable pub call_named : List ℕ → Reader (Asked V)
  call_named name =
      cond (bytes_eq name (codes "ask")) (line_values >>= λ values. give (asks values))
      (cond (bytes_eq name (codes "raise")) (line_values >>= λ values. give (raises values))
      (cond (bytes_eq name (codes "lower")) (line_values >>= λ values. give (lowers values))
      (cond (bytes_eq name (codes "search")) (line_ends >> give searches) (refuse Form))))

  -- one call
  unfoldable pub call_line : Reader (Asked V)
  call_line = do
    next_line
    name ← any_name
    call_named name

-- the calls of a file, and how many questions they may put
pub record Planned (V : Type 0) : Type 0 where
  pub allow : ℕ
  pub calls : List (Asked V)

abbrev pub planned_of : {M V : Type 0} → Plan M V → Planned V
planned_of p = record { allow = p.allow; calls = map asked_of (vec_items p.calls) }

-- the first of these lines tells the allowance
unfoldable pub calls_body : {V : Type 0} → Reader V → ℕ → Reader (Planned V)
calls_body value lines = do
  allow ← number_line (codes "allow") Form 0 9999999
  calls ← many_lines (λ _. call_line value) (lines - 1)
  give (record { allow = allow; calls = calls })
