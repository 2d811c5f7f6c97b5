-- The law of studies: what is promised of every call in every history on a newly made study.
use Rattle.std.specs.Prelude.{◌≡◌, ℕ, ◌+◌, ◌-◌, ◌*◌, ◌<◌, ◌≤◌, ◌⊎◌, List, [], ◌∷◌, length, take, Ok, Err, ◌≢◌}
use Rattle.chains.specs.Order.{Order}
use Rattle.points.specs.Points.{AtMost, Monotone, rank_of}
use Rattle.points.specs.declared.Entry.{Entry}
use Rattle.points.specs.declared.Fault.{Fault}
use Rattle.maps.specs.Rules.{Rules}
use Rattle.bisection.specs.Bits.{product}
use Rattle.bisection.specs.Bounds.{Between}
use Rattle.bisection.specs.Members.{Among, NoneTwice}
use Rattle.study.specs.Calls.{pair_ranks, strip_with}
use Rattle.study.specs.Calls.Call.{search}
use Rattle.study.specs.History.{Did, Event, Run, due, entries_of, made, spent_by}
use Rattle.study.specs.Replies.{reported}
use Rattle.study.specs.declared.reply.Refusal.TheVariants.{Faulted}
use Rattle.study.specs.declared.reply.Report.{Report}
use Rattle.study.specs.declared.reply.Report.TheVariants.{Settled, Pair}
use Rattle.study.specs.declared.state.Study.{Study}

module _ {M V : Type 0} (o : Order M V) (r : Rules M) where
  -- the strip holds these ranks as values
  abbrev pub Shows : Event M V → List ℕ → Type 0
  Shows e ranks = e.strip_after ≡ strip_with o r e.before e.strip e.log ranks

  -- a point of the box that the map sends to itself
  pub record FixedPoint (e : Event M V) (q : List ℕ) : Type 0 where
    pub in_box : Between e.before.bounds q
    pub fixed : r.meaning e.before.map q ≡ Ok q
    pub shown : Shows e (take (r.dims e.before.map) q)

  -- two points that this call or earlier ones put, the first at most the second but answered higher in coordinate k, counted from 1
  pub record TruePair (h : List (Event M V)) (e : Event M V) (k : ℕ) (low high : Entry) : Type 0 where
    pub put_low : Among low (entries_of o r (e ∷ h))
    pub put_high : Among high (entries_of o r (e ∷ h))
    pub answered_low : r.meaning e.before.map low.point ≡ Ok low.answer
    pub answered_high : r.meaning e.before.map high.point ≡ Ok high.answer
    pub in_order : AtMost low.point high.point
    pub named : (1 ≤ k) × (k ≤ r.dims e.before.map)
    pub against : rank_of high.answer (k - 1) < rank_of low.answer (k - 1)
    pub shown : Shows e (pair_ranks (r.dims e.before.map) low high)

  -- what is promised of a search
  pub record Searched (h : List (Event M V)) (e : Event M V) : Type 0 where
    -- it gives a fixed point in the box, or a true pair, and never a pair of a monotone map
    pub settled : (c : ℕ) → e.reply ≡ Ok (Settled c) → (q : List ℕ) × FixedPoint e q
    pub pair : (c k : ℕ) → e.reply ≡ Ok (Pair c k) → (low : Entry) × (high : Entry) × TruePair h e k low high
    pub monotone : Monotone (r.meaning e.before.map) → (c k : ℕ) → e.reply ≢ Ok (Pair c k)
    -- no question is put twice, and there are at most as many as the product of the binary digits of the widths
    pub once : NoneTwice (due o r e).questions
    pub few : length (due o r e).questions ≤ product (r.dims e.before.map) e.before.bounds
    -- where the strip has room for a pair, and record and allowance reach that product, only a fault refuses it
    pub enough : 4 * r.dims e.before.map ≤ length e.strip → product (r.dims e.before.map) e.before.bounds ≤ length e.log → product (r.dims e.before.map) e.before.bounds ≤ e.before.left → ((report : Report) × (e.reply ≡ Ok report)) ⊎ ((f : Fault) × (c : ℕ) × (e.reply ≡ Err (Faulted f c)))

  -- what is promised of every call with these earlier ones, on a study that was made with this allowance
  pub record Lawful (allowance : ℕ) (h : List (Event M V)) (e : Event M V) : Type 0 where
    pub searched : e.call ≡ search → Searched h e
    -- the count that is reported is that of the questions put, and the allowance is what is left and all counts together
    pub counted : reported e.reply ≡ length (due o r e).questions
    pub budget : e.after.left + spent_by o r (e ∷ h) ≡ allowance
    -- in no coordinate does the floor fall or the roof rise, and the floor is at most the roof
    pub floor : AtMost e.before.bounds.floor.at e.after.bounds.floor.at
    pub roof : AtMost e.after.bounds.roof.at e.before.bounds.roof.at
    pub ordered : AtMost e.after.bounds.floor.at e.after.bounds.roof.at

  -- every call of a history is lawful after those before it
  abbrev pub AllLawful : ℕ → List (Event M V) → Type 0
  AllLawful allowance [] = Unit {0}
  AllLawful allowance (e ∷ h) = Lawful allowance h e × AllLawful allowance h

  -- a call goes on with any history that led from a newly made study to its state, and is lawful there
  abbrev pub KeepsLaw : Event M V → Type 0
  KeepsLaw e =
      (m : M) (allowance : ℕ) (h : List (Event M V)) → Run o r (made r m allowance) h e.before →
      Run o r (made r m allowance) (e ∷ h) e.after × Lawful allowance h e

  -- what each public call owes: that it did what its definition says, and that it keeps the law
  pub record Accounted (e : Event M V) : Type 0 where
    pub did : Did o r e
    pub law : KeepsLaw e

  -- whatever calls follow on a newly made study, each is lawful
  abbrev pub LawOfRuns : M → ℕ → Type 0
  LawOfRuns m allowance = (h : List (Event M V)) (t : Study M) → Run o r (made r m allowance) h t → AllLawful allowance h
