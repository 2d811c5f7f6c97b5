-- Judging level by level over the levels of the machine.
use Rattle.std.proofs.Common.{◌≡◌, ℕ, zero, suc, ◌+◌, ◌<◌, ltb, List, [], ◌∷◌, length, drop, sym, refl, ap, ◌∙◌, ⊎_elim, add-one, arith}
use Rattle.std.proofs.lemmas.List.{drop_all}
use Rattle.std.proofs.lemmas.Bool.{cases_lt, cond-true, lt-ltb}
use Rattle.points.specs.declared.Entry.{Entry}
use Rattle.bisection.specs.Judge.{verdict, carried, decide}
use Rattle.bisection.specs.Levels.{opened}
use Rattle.bisection.specs.Machine.{reopened}
use Rattle.bisection.specs.declared.bounds.Bounds.{Bounds}
use Rattle.bisection.specs.declared.level.Level.{Level}
use Rattle.bisection.specs.declared.verdict.Verdict.{Verdict}
use Rattle.bisection.specs.declared.verdict.Verdict.TheVariants.{Settled, Up, Move}

from_place : (k i : ℕ) (ls : List Level) (e : Entry) → decide k (drop i ls) e ≡ carried k (drop (suc i) ls) (decide (suc k) (drop (suc i) ls) e) (verdict k (drop i ls) e)
from_place k zero [] e = refl
from_place k (suc i) [] e = refl
from_place k zero (l ∷ ls) e = refl
from_place k (suc i) (l ∷ ls) e = from_place k i ls e

-- what is decided from level k up is its verdict, carried out
pub decide_step : (k : ℕ) (ls : List Level) (e : Entry) → decide k (drop k ls) e ≡ carried k (drop (suc k) ls) (decide (suc k) (drop (suc k) ls) e) (verdict k (drop k ls) e)
decide_step k ls e = from_place k k ls e

-- the levels below k agreed and level k gave the verdict v: then that is what is decided
pub decided_by : (k : ℕ) (ls : List Level) (e : Entry) (v : Verdict) → decide k (drop k ls) e ≡ decide 0 ls e → verdict k (drop k ls) e ≡ v → decide 0 ls e ≡ carried k (drop (suc k) ls) (decide (suc k) (drop (suc k) ls) e) v
decided_by k ls e v agreed h = sym agreed ∙ decide_step k ls e ∙ ap (carried k (drop (suc k) ls) (decide (suc k) (drop (suc k) ls) e)) h

-- only a level that there is says anything but settled
verdict_within : (k : ℕ) (ls : List Level) (e : Entry) → (verdict k (drop k ls) e ≡ Settled → ⊥) → k < length ls
verdict_within k ls e h =
    ⊎_elim (λ lt. lt) (λ le. absurd (h (ap (λ xs. verdict k xs e) (drop_all k ls le)))) (cases_lt k (length ls))

pub up_within : (k : ℕ) (ls : List Level) (e : Entry) → Up ≡ verdict k (drop k ls) e → k < length ls
up_within k ls e u = verdict_within k ls e (λ s. let z : ◌≡◌ {A = ℕ} 0 1 = cc in omega arith)

-- so it can be reopened
pub reopened_within : (k : ℕ) (b : Bounds) (ls : List Level) → k < length ls → reopened k b ls ≡ opened b (suc k) (drop (suc k) ls)
reopened_within k b ls h = cond-true (ltb k (length ls)) (opened b (suc k) (drop (suc k) ls)) ls (lt-ltb k (length ls) h)

-- what is left where level k moved and was reopened
pub move_leaves : (k : ℕ) (ls after : List Level) (e : Entry) (b : Bounds) → Move b ≡ verdict k (drop k ls) e → after ≡ reopened k b ls → after ≡ opened b (suc k) (drop (suc k) ls)
move_leaves k ls after e b u h =
    h ∙ reopened_within k b ls (verdict_within k ls e (λ s. let z : ◌≡◌ {A = ℕ} 0 1 = cc in omega arith))

-- where level k agreed too, judging goes on at the next
pub up_agrees : (k : ℕ) (ls : List Level) (e : Entry) → decide k (drop k ls) e ≡ decide 0 ls e → Up ≡ verdict k (drop k ls) e → decide (k + 1) (drop (k + 1) ls) e ≡ decide 0 ls e
up_agrees k ls e agreed u =
    ap (λ n. decide n (drop n ls) e) (add-one k) ∙ sym (decided_by k ls e Up agreed (sym u))
