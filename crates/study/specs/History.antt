-- Histories: lists of calls, one after the other, on a newly made study.
use Rattle.std.specs.Prelude.{◌≡◌, ℕ, ◌+◌, ◌-◌, List, [], ◌∷◌, ◌++◌, length, replicate, None}
use Rattle.chains.specs.Order.{Order}
use Rattle.points.specs.Points.{eight, size_of}
use Rattle.points.specs.declared.Entry.{Entry}
use Rattle.maps.specs.Rules.{Rules, SameOrder, SameRules}
use Rattle.bisection.specs.declared.bounds.Bounds.{Bounds}
use Rattle.study.specs.Calls.{Call, Deed, deed}
use Rattle.study.specs.Replies.{Reply, reported}
use Rattle.study.specs.declared.state.Study.{Study}

-- the box of all points
abbrev pub whole_box : List ℕ → Bounds
whole_box sizes =
    record {
      floor = record { at = replicate 8 0; footing = None };
      roof = record { at = eight (λ i. size_of sizes i - 1); footing = None };
    }

-- a newly made study
abbrev pub made : {M : Type 0} → Rules M → M → ℕ → Study M
made r m allowance = record { map = m; left = allowance; bounds = whole_box (r.sizes m) }

-- these questions, put in order, lead a map from one state to another
pub data Leads {M : Type 0} (r : Rules M) : M → List (List ℕ) → M → Type 0 where
  stays : {m : M} → Leads r m [] m
  puts : {m n k : M} {q : List ℕ} {qs : List (List ℕ)} → r.puts m q n → Leads r n qs k → Leads r m (q ∷ qs) k

-- a call that was made: the study, the strip and the record before it and after it, and its reply
pub record Event (M V : Type 0) : Type 0 where
  pub call : Call V
  pub before : Study M
  pub strip : List V
  pub log : List Entry
  pub reply : Reply
  pub after : Study M
  pub strip_after : List V
  pub log_after : List Entry

-- a call on a study, with its strip and its record; its reply, and what the study, the strip and the record are afterwards
abbrev pub event : {M V : Type 0} → Call V → Study M → List V → List Entry → Reply → Study M → List V → List Entry → Event M V
event call before strip log reply after strip_after log_after =
    record { call = call; before = before; strip = strip; log = log; reply = reply; after = after; strip_after = strip_after; log_after = log_after }

module _ {M V : Type 0} (o : Order M V) (r : Rules M) where
  -- what the call was to leave
  abbrev pub due : Event M V → Deed V
  due e = deed o r e.before e.strip e.log e.call

  -- the call did what its definition says: reply, strip, record, box and budget are as due, and exactly its questions, in order,
  -- lead the map on, which keeps its meaning and its chain
  pub record Did (e : Event M V) : Type 0 where
    pub reply : e.reply ≡ (due e).reply
    pub strip : e.strip_after ≡ (due e).strip
    pub log : e.log_after ≡ (due e).log
    pub box : e.after.bounds ≡ (due e).box
    pub left : e.after.left + length (due e).questions ≡ e.before.left
    pub leads : Leads r e.before.map (due e).questions e.after.map
    pub same : SameRules r e.before.map e.after.map
    pub same_order : SameOrder o e.before.map e.after.map

  -- a history: calls that were made one after the other, the newest first, from one state of a study to another
  pub data Run (start : Study M) : List (Event M V) → Study M → Type 0 where
    none : Run start [] start
    next : {h : List (Event M V)} {e : Event M V} → Run start h e.before → Did e → Run start (e ∷ h) e.after

  -- the answered questions of a history
  abbrev pub entries_of : List (Event M V) → List Entry
  entries_of [] = []
  entries_of (e ∷ h) = (due e).entries ++ entries_of h

  -- the questions that a history reports
  abbrev pub spent_by : List (Event M V) → ℕ
  spent_by [] = 0
  spent_by (e ∷ h) = reported e.reply + spent_by h
