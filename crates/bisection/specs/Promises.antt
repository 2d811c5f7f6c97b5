-- What is promised of every search from a sound box, whatever F answers.
use Rattle.std.specs.Prelude.{◌≡◌, ℕ, ◌<◌, ◌≤◌, true, ◌⊎◌, List, Some, Ok, Err, ◌≢◌}
use Rattle.points.specs.declared.Entry.{Entry}
use Rattle.points.specs.declared.Fault.{Fault}
use Rattle.points.specs.Points.{rank_of, is_point, AtMost, Meaning, Monotone}
use Rattle.bisection.specs.Bits.{product}
use Rattle.bisection.specs.Bounds.{Between}
use Rattle.bisection.specs.Members.{Among, NoneTwice}
use Rattle.bisection.specs.Run.{Ran, searched, questions, count}
use Rattle.bisection.specs.Run.Outcome.{settles, pairs, spent, full, faults}
use Rattle.bisection.specs.Sound.{Sound}
use Rattle.bisection.specs.declared.bounds.Bounds.{Bounds}

-- e was put in this search, or is a footing of its box
abbrev pub WasPut : Bounds → Ran → Entry → Type 0
WasPut box r e = Among e r.entries ⊎ ((box.floor.footing ≡ Some e) ⊎ (box.roof.footing ≡ Some e))

-- two entries that were put and that F answers so: the lower question is answered higher in coordinate k
pub record Contradiction (F : Meaning) (box : Bounds) (r : Ran) (low high : Entry) (k : ℕ) : Type 0 where
  pub put_low : WasPut box r low
  pub put_high : WasPut box r high
  pub true_low : F low.point ≡ Ok low.answer
  pub true_high : F high.point ≡ Ok high.answer
  pub points : AtMost low.point high.point
  pub answers : rank_of high.answer k < rank_of low.answer k

-- what is said of every search from a sound box, where `r` is what it leaves
abbrev pub OfEverySearch : ((F : Meaning) (sizes : List ℕ) (d : ℕ) (box : Bounds) (left room : ℕ) (r : Ran) → Type 0) → Type 0
OfEverySearch P =
    (F : Meaning) (sizes : List ℕ) (d : ℕ) (box : Bounds) (left room : ℕ) → Sound F sizes d box → P F sizes d box left room (searched F d box left room)

-- what is settled is a point of the box that F sends to itself
abbrev pub SettledIsFixed : Type 0
SettledIsFixed =
    OfEverySearch λ F sizes d box left room r.
    (q : List ℕ) → r.outcome ≡ settles q → Between box q × (is_point sizes q ≡ true) × (F q ≡ Ok q)

-- a pair is a contradiction, in one of the d coordinates
abbrev pub PairContradicts : Type 0
PairContradicts =
    OfEverySearch λ F sizes d box left room r.
    (low high : Entry) (k : ℕ) → r.outcome ≡ pairs low high k → Contradiction F box r low high k × (k < d)

-- so a monotone F has none
abbrev pub MonotoneHasNoPair : Type 0
MonotoneHasNoPair =
    OfEverySearch λ F sizes d box left room r.
    Monotone F → (low high : Entry) (k : ℕ) → r.outcome ≢ pairs low high k

-- no question is put twice, the one that met a fault included
abbrev pub NoQuestionTwice : Type 0
NoQuestionTwice = OfEverySearch λ F sizes d box left room r. NoneTwice (questions r)

-- the questions number at most the product of the binary digits of the widths
abbrev pub QuestionsAreFew : Type 0
QuestionsAreFew = OfEverySearch λ F sizes d box left room r. count r ≤ product d box

-- with that much left and that much room, only a fault can refuse
abbrev pub EnoughSuffices : Type 0
EnoughSuffices =
    OfEverySearch λ F sizes d box left room r.
    product d box ≤ left → product d box ≤ room → (r.outcome ≢ spent) × (r.outcome ≢ full)

-- every question is a point of the box, and so is the question of every entry
abbrev pub QuestionsAreInBox : Type 0
QuestionsAreInBox =
    OfEverySearch λ F sizes d box left room r.
    ((q : List ℕ) → Among q (questions r) → Between box q × (is_point sizes q ≡ true))
    × ((e : Entry) → Among e r.entries → Between box e.point × (is_point sizes e.point ≡ true))

-- what a search says that F said, F said; and a search that nothing was left for, or no room, put as many questions as there was
pub record Honest (F : Meaning) (left room : ℕ) (r : Ran) : Type 0 where
  pub entries : (e : Entry) → Among e r.entries → F e.point ≡ Ok e.answer
  pub fault : (q : List ℕ) (f : Fault) → r.outcome ≡ faults q f → F q ≡ Err f
  pub within_left : count r ≤ left
  pub within_room : count r ≤ room
  pub nothing_left : r.outcome ≡ spent → count r ≡ left
  pub no_room : r.outcome ≡ full → count r ≡ room

abbrev pub SearchIsHonest : Type 0
SearchIsHonest = (F : Meaning) (d : ℕ) (box : Bounds) (left room : ℕ) → Honest F left room (searched F d box left room)

-- the outcome depends on nothing but F at the questions put
abbrev pub OnlyQuestionsMatter : Type 0
OnlyQuestionsMatter =
    (F G : Meaning) (d : ℕ) (box : Bounds) (left room : ℕ) →
    ((q : List ℕ) → Among q (questions (searched F d box left room)) → G q ≡ F q) →
    searched G d box left room ≡ searched F d box left room
