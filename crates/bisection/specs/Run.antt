-- A whole search against a meaning F, with so much budget left and so much room in the record.
use Rattle.std.specs.Prelude.{ℕ, zero, suc, List, [], ◌∷◌, ◌++◌, map, length, Ok, Err, Result}
use Rattle.points.specs.declared.Entry.{Entry}
use Rattle.points.specs.declared.Fault.{Fault}
use Rattle.points.specs.Points.{Meaning}
use Rattle.bisection.specs.Judge.{Decision, decision}
use Rattle.bisection.specs.Levels.{opened, question, entry_of}
use Rattle.bisection.specs.declared.bounds.Bounds.{Bounds}
use Rattle.bisection.specs.declared.level.Level.{Level}

-- how a search ends
pub data Outcome : Type 0 where
  settles : List ℕ → Outcome
  -- two entries, the lower question first, and the coordinate, counted from 0, in which their answers contradict each other
  pairs : Entry → Entry → ℕ → Outcome
  -- a question was due and nothing was left
  spent : Outcome
  -- a question was due and the record was full
  full : Outcome
  -- this question met this fault
  faults : List ℕ → Fault → Outcome

-- what a search leaves: its entries in order, and how it ended
pub record Ran : Type 0 where
  pub entries : List Entry
  pub outcome : Outcome

abbrev pub ended : List Entry → Outcome → Ran
ended es o = record { entries = es; outcome = o }

-- an entry was made, and then the search went on as `rest`
abbrev pub after : Entry → Ran → Ran
after e rest = ended (e ∷ rest.entries) rest.outcome

-- an entry was made, and this was decided by it; `go` is the search from new levels
abbrev pub follow : Entry → (List Level → Ran) → Decision → Ran
follow e go Decision.settled = ended (e ∷ []) (settles e.point)
follow e go (Decision.pair low high k) = ended (e ∷ []) (pairs low high k)
follow e go (Decision.goes levels) = after e (go levels)

-- the question of these levels got this reply
abbrev pub replied : List Level → (List Level → Ran) → Result (List ℕ) Fault → Ran
replied levels go (Err f) = ended [] (faults (question levels) f)
replied levels go (Ok y) = follow (entry_of levels y) go (decision levels y)

-- the search from these levels, with this much left and this much room in the record
abbrev pub run : Meaning → List Level → ℕ → ℕ → Ran
run F levels zero room = ended [] spent
run F levels (suc left) zero = ended [] full
run F levels (suc left) (suc room) = replied levels (λ next. run F next left room) (F (question levels))

-- the search of a box in the first d coordinates
abbrev pub searched : Meaning → ℕ → Bounds → ℕ → ℕ → Ran
searched F d box left room = run F (opened box d []) left room

-- the question that was put and made no entry
abbrev pub unanswered : Outcome → List (List ℕ)
unanswered (settles q) = []
unanswered (pairs low high k) = []
unanswered spent = []
unanswered full = []
unanswered (faults q f) = q ∷ []

-- the questions that were put, in order
abbrev pub questions : Ran → List (List ℕ)
questions r = map (λ (e : Entry). e.point) r.entries ++ unanswered r.outcome

-- and how many they are
abbrev pub count : Ran → ℕ
count r = length (questions r)
