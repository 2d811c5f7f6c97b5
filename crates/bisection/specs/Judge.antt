-- What an answer decides: at one level, and from level k up.
use Rattle.std.specs.Prelude.{ℕ, suc, cond, List, [], ◌∷◌, ◌==◌, nat_lt}
use Rattle.points.specs.declared.Entry.{Entry}
use Rattle.points.specs.Points.{rank_of}
use Rattle.bisection.specs.Bounds.{raised, lowered, footing}
use Rattle.bisection.specs.Levels.{opened, entry_of}
use Rattle.bisection.specs.declared.bounds.Bounds.{Bounds}
use Rattle.bisection.specs.declared.level.Level.{Level}
use Rattle.bisection.specs.declared.verdict.Verdict.{Verdict}
use Rattle.bisection.specs.declared.verdict.Verdict.TheVariants.{Settled, Up, Pair, Move}

-- the answer is above the middle of coordinate k: past the roof it contradicts the roof's footing, else the floor moves
abbrev pub answered_above : ℕ → Bounds → Entry → Verdict
answered_above k b e =
    cond (nat_lt (rank_of b.roof.at k) (rank_of e.answer k)) (Pair e (footing b.roof.footing)) (Move (raised k e b))

-- below it, the mirror
abbrev pub answered_below : ℕ → Bounds → Entry → Verdict
answered_below k b e =
    cond (nat_lt (rank_of e.answer k) (rank_of b.floor.at k)) (Pair (footing b.floor.footing) e) (Move (lowered k e b))

-- what level k makes of a question e with its answer
abbrev pub judged : ℕ → Level → Entry → Verdict
judged k l e =
    cond (rank_of e.answer k == l.middle) Up
    (cond (nat_lt l.middle (rank_of e.answer k)) (answered_above k l.bounds e) (answered_below k l.bounds e))

-- what is made of it by the lowest of these levels, which is level k; past the last level it is settled
abbrev pub verdict : ℕ → List Level → Entry → Verdict
verdict k [] e = Settled
verdict k (l ∷ above) e = judged k l e

-- what an answer decides: the point is settled, two entries contradict each other in a coordinate, or the search goes on
pub data Decision : Type 0 where
  settled : Decision
  pair : Entry → Entry → ℕ → Decision
  goes : List Level → Decision

-- level k's verdict carried out, where `up` is what the levels above decide
abbrev pub carried : ℕ → List Level → Decision → Verdict → Decision
carried k above up Settled = settled
carried k above up Up = up
carried k above up (Pair low high) = pair low high k
carried k above up (Move b) = goes (opened b (suc k) above)

-- judging begins at level k, the lowest of these, and goes up
abbrev pub decide : ℕ → List Level → Entry → Decision
decide k [] e = settled
decide k (l ∷ above) e = carried k above (decide (suc k) above e) (judged k l e)

-- what is decided by the answer y to the question of these levels
abbrev pub decision : List Level → List ℕ → Decision
decision levels y = decide 0 levels (entry_of levels y)
