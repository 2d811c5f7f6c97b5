-- What each call does, from any state of a study.
use Rattle.std.specs.Prelude.{ℕ, suc, ◌*◌, cond, List, [], ◌∷◌, ◌++◌, length, take, drop, Some, None, Ok, Err, Option, Result, ◌==◌, nat_lt}
use Rattle.chains.specs.Order.{Order}
use Rattle.points.specs.Points.{first_above}
use Rattle.points.specs.declared.Entry.{Entry}
use Rattle.points.specs.declared.Fault.{Fault}
use Rattle.maps.specs.Rules.{Rules}
use Rattle.bisection.specs.Run.{Outcome, Ran, count, questions, searched}
use Rattle.bisection.specs.declared.bounds.Bounds.{Bounds}
use Rattle.bisection.specs.declared.bounds.Side.{Side}
use Rattle.study.specs.Replies.{Reply}
use Rattle.study.specs.Values.{first_outside, point_of, ranks_from, written}
use Rattle.study.specs.declared.reply.Refusal.{Refusal}
use Rattle.study.specs.declared.reply.Refusal.TheVariants.{Strip, Values, Value, Spent, Faulted, Outside, Full}
use Rattle.study.specs.declared.reply.Report.TheVariants.{Answered, Settled, Pair}
use Rattle.study.specs.declared.state.Study.{Study}

-- a call, with its values
pub data Call (V : Type 0) : Type 0 where
  ask : List V → Call V
  raise : List V → Call V
  lower : List V → Call V
  search : Call V

-- what a call leaves: its reply, the strip, the record and the box afterwards, the questions that it put, and those that were
-- answered
pub record Deed (V : Type 0) : Type 0 where
  pub reply : Reply
  pub strip : List V
  pub log : List Entry
  pub box : Bounds
  pub questions : List (List ℕ)
  pub entries : List Entry

-- a side at a point that was put, with its answer as the footing
abbrev pub side_at : Entry → Side
side_at e = record { at = e.point; footing = Some e }

-- it becomes the floor; and the roof
abbrev pub floor_at : Entry → Bounds → Bounds
floor_at e b = record { floor = side_at e; roof = b.roof }

abbrev pub roof_at : Entry → Bounds → Bounds
roof_at e b = record { floor = b.floor; roof = side_at e }

-- what two entries show, as ranks: the lower point, its answer, the upper point, its answer
abbrev pub pair_ranks : ℕ → Entry → Entry → List ℕ
pair_ranks d low high = take d low.point ++ (take d low.answer ++ (take d high.point ++ take d high.answer))

-- ranks as a point, or which value has none
abbrev pub placed : Result (List ℕ) ℕ → Result (List ℕ) Refusal
placed (Ok ranks) = Ok (point_of ranks)
placed (Err i) = Err (Value (suc i))

-- a point, unless it lies outside the box in a coordinate
abbrev pub unless_outside : List ℕ → Option ℕ → Result (List ℕ) Refusal
unless_outside q None = Ok q
unless_outside q (Some i) = Err (Outside (suc i))

-- refused, where a raised or lowered point lies on the wrong side of its answer in a coordinate
abbrev pub unless_wrong : Option ℕ → Result (Unit {0}) Refusal
unless_wrong None = Ok tt
unless_wrong (Some i) = Err (Refusal.Side (suc i))

abbrev pub inside : Bounds → Result (List ℕ) Refusal → Result (List ℕ) Refusal
inside box (Ok q) = unless_outside q (first_outside box q)
inside box (Err refusal) = Err refusal

module _ {M V : Type 0} (o : Order M V) (r : Rules M) (s : Study M) where
  -- the point that values name, if a strip of so many cells has room for its answer
  abbrev pub point_named : ℕ → List V → Result (List ℕ) Refusal
  point_named cells values =
      cond (nat_lt cells (r.dims s.map)) (Err Strip)
      (cond (length values == r.dims s.map) (placed (ranks_from (o.rank s.map) (r.sizes s.map) 0 values)) (Err Values))

  -- the point of the box that they name
  abbrev pub point_in_box : ℕ → List V → Result (List ℕ) Refusal
  point_in_box cells values = inside s.bounds (point_named cells values)

-- what is told of a question that is due: its answer, or why there is none
abbrev pub or_faulted : Result (List ℕ) Fault → Result (List ℕ) Refusal
or_faulted (Ok y) = Ok y
or_faulted (Err f) = Err (Faulted f 1)

abbrev pub answer_to : {M : Type 0} → Rules M → Study M → List ℕ → Result (List ℕ) Refusal
answer_to r s q = cond (s.left == 0) (Err (Spent 0)) (or_faulted (r.meaning s.map q))

-- it is put, if something is left
abbrev pub put_now : {M : Type 0} → Study M → List ℕ → List (List ℕ)
put_now s q = cond (s.left == 0) [] (q ∷ [])

module _ {M V : Type 0} (o : Order M V) (r : Rules M) (s : Study M) (strip : List V) (log : List Entry) where
  -- the strip with these ranks written as values
  abbrev pub strip_with : List ℕ → List V
  strip_with ranks = written (o.member s.map) ranks strip

  -- refused, after these questions were put
  abbrev pub refused_after : List (List ℕ) → Refusal → Deed V
  refused_after qs refusal = record { reply = Err refusal; strip = strip; log = log; box = s.bounds; questions = qs; entries = [] }

  -- one question was put and answered, so the strip holds the answer
  abbrev pub answered : Entry → Reply → Bounds → Deed V
  answered e reply box = record { reply = reply; strip = strip_with (take (r.dims s.map) e.answer); log = log; box = box; questions = e.point ∷ []; entries = e ∷ [] }

  -- what comes next of a point, unless it was refused
  abbrev pub with_point : Result (List ℕ) Refusal → (List ℕ → Deed V) → Deed V
  with_point (Ok q) next = next q
  with_point (Err refusal) next = refused_after [] refusal

  -- what comes next of its answer
  abbrev pub with_reply : List ℕ → (Entry → Deed V) → Result (List ℕ) Refusal → Deed V
  with_reply q next (Ok y) = next (record { point = q; answer = y })
  with_reply q next (Err refusal) = refused_after (put_now s q) refusal

  abbrev pub with_answer : List ℕ → (Entry → Deed V) → Deed V
  with_answer q next = with_reply q next (answer_to r s q)

  -- the box moves, unless the answer lies on the wrong side of its point
  abbrev pub moves : Entry → Bounds → Option ℕ → Deed V
  moves e box None = answered e (Ok (Answered 1)) box
  moves e box (Some i) = answered e (Err (Refusal.Side (suc i))) s.bounds

  abbrev pub asked : List V → Deed V
  asked values = with_point (point_named o r s (length strip) values) (λ q. with_answer q (λ e. answered e (Ok (Answered 1)) s.bounds))

  -- a point of the box moves a side, unless it lies on the wrong side of its answer
  abbrev pub sided : (Entry → Bounds → Bounds) → (Entry → Option ℕ) → List V → Deed V
  sided moved wrong values =
      with_point (point_in_box o r s (length strip) values) (λ q. with_answer q (λ e. moves e (moved e s.bounds) (wrong e)))

  -- raised if the point is at most its answer
  abbrev pub raised : List V → Deed V
  raised = sided floor_at (λ e. first_above e.point e.answer)

  -- lowered if the answer is at most the point
  abbrev pub lowered : List V → Deed V
  lowered = sided roof_at (λ e. first_above e.answer e.point)

  -- the reply to a search that ended so, with its count; and the strip afterwards
  abbrev pub found_reply : ℕ → Outcome → Reply
  found_reply c (Outcome.settles q) = Ok (Settled c)
  found_reply c (Outcome.pairs low high k) = Ok (Pair c (suc k))
  found_reply c Outcome.spent = Err (Spent c)
  found_reply c Outcome.full = Err (Full c)
  found_reply c (Outcome.faults q f) = Err (Faulted f c)

  abbrev pub found_strip : Outcome → List V
  found_strip (Outcome.settles q) = strip_with (take (r.dims s.map) q)
  found_strip (Outcome.pairs low high k) = strip_with (pair_ranks (r.dims s.map) low high)
  found_strip Outcome.spent = strip
  found_strip Outcome.full = strip
  found_strip (Outcome.faults q f) = strip

  -- what a search leaves: its entries stand first in the record
  abbrev pub left_by : Ran → Deed V
  left_by ran = record {
    reply = found_reply (count ran) ran.outcome;
    strip = found_strip ran.outcome;
    log = ran.entries ++ drop (length ran.entries) log;
    box = s.bounds;
    questions = questions ran;
    entries = ran.entries;
  }

  abbrev pub searched_box : Deed V
  searched_box =
      cond (nat_lt (length strip) (4 * r.dims s.map)) (refused_after [] Strip)
      (left_by (searched (r.meaning s.map) (r.dims s.map) s.bounds s.left (length log)))

  -- what a call leaves
  abbrev pub deed : Call V → Deed V
  deed (ask values) = asked values
  deed (raise values) = raised values
  deed (lower values) = lowered values
  deed search = searched_box
