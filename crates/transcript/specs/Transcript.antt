-- What a list of calls prints, on a newly made study.
use Rattle.std.specs.Prelude.{ℕ, ◌-◌, List, [], ◌∷◌, ◌++◌, length}
use Rattle.chains.specs.Order.{Order}
use Rattle.points.specs.declared.Entry.{Entry}
use Rattle.maps.specs.Rules.{Rules}
use Rattle.bisection.specs.declared.bounds.Bounds.{Bounds}
use Rattle.sheets.specs.CallsBody.{Asked, asked_of}
use Rattle.sheets.specs.declared.calls.Call.{Call as PlanCall}
use Rattle.study.specs.Calls.{Call, Deed, deed}
use Rattle.study.specs.History.{whole_box}
use Rattle.study.specs.declared.state.Study.{Study}
use Rattle.transcript.specs.Lines.{done_name, kind_line, left_line, reply_line}

-- a call as a file tells it, on a study
abbrev pub call_of : {V : Type 0} → Asked V → Call V
call_of (Asked.asks values) = Call.ask values
call_of (Asked.raises values) = Call.raise values
call_of (Asked.lowers values) = Call.lower values
call_of Asked.searches = Call.search

-- and as a plan holds it
abbrev pub planned_call : {V : Type 0} → PlanCall V → Call V
planned_call call = call_of (asked_of call)

-- what is lent of the record: all of it to a search, and nothing to the others
abbrev pub lent : {V : Type 0} → Call V → List Entry → List Entry
lent (Call.ask values) log = []
lent (Call.raise values) log = []
lent (Call.lower values) log = []
lent Call.search log = log

-- the record afterwards, where this came back of what was lent
abbrev pub returned : {V : Type 0} → Call V → List Entry → List Entry → List Entry
returned (Call.ask values) log back = log
returned (Call.raise values) log back = log
returned (Call.lower values) log back = log
returned Call.search log back = back

-- where the calls stand: what is left, the box, the strip and the record
pub record Stand (V : Type 0) : Type 0 where
  pub left : ℕ
  pub box : Bounds
  pub strip : List V
  pub log : List Entry

-- the calls are put to a map that stays as it was, for all that a caller can tell
module _ {M V : Type 0} (o : Order M V) (r : Rules M) (m : M) where
  abbrev pub study_at : Stand V → Study M
  study_at t = record { map = m; left = t.left; bounds = t.box }

  -- what a call leaves
  abbrev pub due_at : Stand V → Call V → Deed V
  due_at t call = deed o r (study_at t) t.strip (lent call t.log) call

  abbrev pub after : Stand V → Call V → Stand V
  after t call = record {
    left = t.left - length (due_at t call).questions;
    box = (due_at t call).box;
    strip = (due_at t call).strip;
    log = returned call t.log (due_at t call).log;
  }

  -- its line
  abbrev pub line_at : (V → List ℕ) → Stand V → Call V → List ℕ
  line_at show t call = reply_line show (r.dims m) (done_name call) (due_at t call).reply (due_at t call).strip

  -- calls one after the other: where they end, and their lines
  abbrev pub ending : Stand V → List (Call V) → Stand V
  ending t [] = t
  ending t (call ∷ calls) = ending (after t call) calls

  abbrev pub call_lines : (V → List ℕ) → Stand V → List (Call V) → List ℕ
  call_lines show t [] = []
  call_lines show t (call ∷ calls) = line_at show t call ++ call_lines show (after t call) calls

  -- at first the box is all points
  abbrev pub starting : ℕ → List V → List Entry → Stand V
  starting allowance strip log = record { left = allowance; box = whole_box (r.sizes m); strip = strip; log = log }

  -- the lines of the calls, and what they leave of the allowance
  abbrev pub transcript : (V → List ℕ) → ℕ → Stand V → List (Call V) → List ℕ
  transcript show kind t calls = kind_line kind ++ (call_lines show t calls ++ left_line (ending t calls).left)
