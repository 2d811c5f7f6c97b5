-- Calls that were made one after the other, and what was printed of them.
use Rattle.std.specs.Prelude.{◌≡◌, ℕ, List, [], ◌∷◌, ◌++◌, string_bytes}
use Rattle.chains.specs.Order.{Order}
use Rattle.maps.specs.Rules.{Rules}
use Rattle.study.specs.Calls.{Call}
use Rattle.study.specs.History.{Event, Run}
use Rattle.transcript.specs.Lines.{done_name, reply_line}
use Rattle.transcript.specs.Transcript.{Stand, call_lines, ending}
use Rattle.transcript.specs.declared.session.Session.{Session}

-- the calls of a history, which is told with the newest first, and then these
abbrev pub calls_onto : {M V : Type 0} → List (Event M V) → List (Call V) → List (Call V)
calls_onto [] calls = calls
calls_onto (e ∷ h) calls = calls_onto h (e.call ∷ calls)

-- where a session stands
abbrev pub stand_of : {M V : Type 0} → Session V M → Stand V
stand_of s = record { left = s.study.left; box = s.study.bounds; strip = s.strip.items; log = s.log.items }

module _ {M V : Type 0} (o : Order M V) (r : Rules M) (show : V → List ℕ) where
  -- the line of a call that was made
  abbrev pub event_line : Event M V → List ℕ
  event_line e = reply_line show (r.dims e.before.map) (done_name e.call) e.reply e.strip_after

  -- the lines of a history, the oldest first
  abbrev pub told_of : List (Event M V) → List ℕ
  told_of [] = []
  told_of (e ∷ h) = told_of h ++ event_line e

  -- exactly these calls led from one state of a session to another, and their lines are what their definition says
  pub record CallsTold (calls : List (Call V)) (before after : Session V M) : Type 0 where
    pub exact : string_bytes after.text ≡ string_bytes before.text ++ call_lines o r before.study.map show (stand_of before) calls
    pub left : after.study.left ≡ (ending o r before.study.map (stand_of before) calls).left
    pub history : List (Event M V)
    pub run : Run o r before.study history after.study
    pub asked : calls_onto history [] ≡ calls
    pub told : string_bytes after.text ≡ string_bytes before.text ++ told_of history
