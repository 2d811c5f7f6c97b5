-- The newest entry is judged level by level: what a level's verdict decides.
use Rattle.std.proofs.Common.{◌≡◌, ℕ, suc, ◌<◌, List, [], length, get_or, drop, set, sym, ap, ◌∙◌, ap₂}
use Rattle.std.proofs.lemmas.List.{get_or-set_same}
use Rattle.points.specs.declared.Entry.{Entry}
use Rattle.bisection.specs.Judge.{carried, decide, decision, verdict}
use Rattle.bisection.specs.Levels.{entry_of, question}
use Rattle.bisection.specs.declared.level.Level.{Level}
use Rattle.bisection.specs.declared.verdict.Verdict.{Verdict}
use Rattle.bisection.proofs.Steps.{decided_by}

-- a question with its answer
abbrev pub entry : List ℕ → List ℕ → Entry
entry q y = record { point = q; answer = y }

-- the newest entry of a record, as it is read again
abbrev pub newest : List Entry → ℕ → List ℕ → List ℕ → Entry
newest log at q y = get_or (set log at (entry q y)) at (entry [] [])

pub newest_is : (log : List Entry) (at : ℕ) (q y : List ℕ) → at < length log → newest log at q y ≡ entry q y
newest_is log at q y h = get_or-set_same log at (entry q y) (entry [] []) h

-- the levels below k agreed, and level k gave the verdict v
pub judged_decision : (k : ℕ) (held ls : List Level) (q y : List ℕ) (log : List Entry) (at : ℕ) (v : Verdict) → at < length log → held ≡ ls → q ≡ question ls → decide k (drop k held) (newest log at q y) ≡ decide 0 held (newest log at q y) → v ≡ verdict k (drop k held) (newest log at q y) → carried k (drop (suc k) ls) (decide (suc k) (drop (suc k) ls) (entry_of ls y)) v ≡ decision ls y
judged_decision k held ls q y log at v h same asked agreed is =
    let here : newest log at q y ≡ entry_of ls y = newest_is log at q y h ∙ ap (λ p. entry p y) asked in
    sym (ap₂ (λ (l : List Level) (e : Entry). carried k (drop (suc k) l) (decide (suc k) (drop (suc k) l) e) v) same here)
    ∙ sym (decided_by k held (newest log at q y) v agreed (sym is))
    ∙ ap₂ (λ (l : List Level) (e : Entry). decide 0 l e) same here
