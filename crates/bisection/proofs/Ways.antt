-- The ways that a judgement can go, so that no later proof opens its tests.
use Rattle.std.proofs.Common.{◌≡◌, ℕ, suc, ◌<◌, ◌≤◌, Bool, true, false, cond, eqb, ltb, List, [], ◌∷◌, refl, arith}
use Rattle.std.proofs.lemmas.Bool.{eqb-true, eqb-false, ltb-true, ltb-false}
use Rattle.points.specs.declared.Entry.{Entry}
use Rattle.points.specs.Points.{rank_of}
use Rattle.bisection.specs.Bounds.{raised, lowered, footing}
use Rattle.bisection.specs.Judge.{Decision, answered_above, answered_below, carried, decide}
use Rattle.bisection.specs.Judge.Decision.{settled, pair, goes}
use Rattle.bisection.specs.Levels.{opened}
use Rattle.bisection.specs.declared.level.Level.{Level}
use Rattle.bisection.specs.declared.verdict.Verdict.{Verdict}

pub data Ways (e : Entry) : ℕ → List Level → Decision → Type 0 where
  done : {k : ℕ} → Ways e k [] settled
  up : {k : ℕ} {l : Level} {ls : List Level} {s : Decision} → rank_of e.answer k ≡ l.middle → Ways e (suc k) ls s → Ways e k (l ∷ ls) s
  over : {k : ℕ} {l : Level} {ls : List Level} → l.middle < rank_of e.answer k → rank_of l.bounds.roof.at k < rank_of e.answer k → Ways e k (l ∷ ls) (pair e (footing l.bounds.roof.footing) k)
  under : {k : ℕ} {l : Level} {ls : List Level} → rank_of e.answer k < l.middle → rank_of e.answer k < rank_of l.bounds.floor.at k → Ways e k (l ∷ ls) (pair (footing l.bounds.floor.footing) e k)
  raise : {k : ℕ} {l : Level} {ls : List Level} → l.middle < rank_of e.answer k → rank_of e.answer k ≤ rank_of l.bounds.roof.at k → Ways e k (l ∷ ls) (goes (opened (raised k e l.bounds) (suc k) ls))
  lower : {k : ℕ} {l : Level} {ls : List Level} → rank_of e.answer k < l.middle → rank_of l.bounds.floor.at k ≤ rank_of e.answer k → Ways e k (l ∷ ls) (goes (opened (lowered k e l.bounds) (suc k) ls))

module _ (e : Entry) (k : ℕ) (l : Level) (ls : List Level) (above : Decision) where
  high : (t : Bool) → ltb (rank_of l.bounds.roof.at k) (rank_of e.answer k) ≡ t → l.middle < rank_of e.answer k → Ways e k (l ∷ ls) (carried k ls above (cond t (Verdict.Pair e (footing l.bounds.roof.footing)) (Verdict.Move (raised k e l.bounds))))
  high true t h = over h (ltb-true _ _ t)
  high false t h = raise h (ltb-false _ _ t)

  low : (t : Bool) → ltb (rank_of e.answer k) (rank_of l.bounds.floor.at k) ≡ t → rank_of e.answer k < l.middle → Ways e k (l ∷ ls) (carried k ls above (cond t (Verdict.Pair (footing l.bounds.floor.footing) e) (Verdict.Move (lowered k e l.bounds))))
  low true t h = under h (ltb-true _ _ t)
  low false t h = lower h (ltb-false _ _ t)

  apart : (t : Bool) → ltb l.middle (rank_of e.answer k) ≡ t → (rank_of e.answer k ≡ l.middle → ⊥) → Ways e k (l ∷ ls) (carried k ls above (cond t (answered_above k l.bounds e) (answered_below k l.bounds e)))
  apart true t n = high _ refl (ltb-true _ _ t)
  apart false t n = low _ refl (omega (arith, ltb-false _ _ t))

  one : (t : Bool) → eqb (rank_of e.answer k) l.middle ≡ t → Ways e (suc k) ls above → Ways e k (l ∷ ls) (carried k ls above (cond t Verdict.Up (cond (ltb l.middle (rank_of e.answer k)) (answered_above k l.bounds e) (answered_below k l.bounds e))))
  one true t w = up (eqb-true _ _ t) w
  one false t w = apart _ refl (eqb-false _ _ t)

-- each judgement goes one of the ways
pub ways : (e : Entry) (k : ℕ) (ls : List Level) → Ways e k ls (decide k ls e)
ways e k [] = done
ways e k (l ∷ ls) = one e k l ls (decide (suc k) ls e) _ refl (ways e (suc k) ls)
