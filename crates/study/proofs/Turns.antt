-- A turn of the search: a question is put, and its answer is judged level by level.
use Rattle.std.proofs.Common.{◌≡◌, ℕ, suc, ◌+◌, ◌-◌, ◌<◌, List, length, drop, set, Ok, Err, sym, refl, ap, ◌∙◌, subst, subst₂, arith}
use Rattle.chains.specs.Order.{Order}
use Rattle.points.specs.declared.Entry.{Entry}
use Rattle.points.specs.declared.Fault.{Fault}
use Rattle.maps.specs.Rules.{Rules, SameOrder, SameRules}
use Rattle.bisection.specs.Judge.{carried, decide, decision, verdict}
use Rattle.bisection.specs.Levels.{entry_of, opened, question}
use Rattle.bisection.specs.Machine.{reopened}
use Rattle.bisection.specs.Run.{Outcome}
use Rattle.bisection.specs.declared.bounds.Bounds.{Bounds}
use Rattle.bisection.specs.declared.level.Level.{Level}
use Rattle.bisection.specs.declared.verdict.Verdict.{Verdict}
use Rattle.bisection.specs.declared.verdict.Verdict.TheVariants.{Settled, Pair, Move}
use Rattle.bisection.proofs.Steps.{move_leaves}
use Rattle.study.specs.Seek.{Sought, ended_by}
use Rattle.study.specs.declared.seek.Found.{Found}
use Rattle.study.specs.declared.seek.Halt.{Halt}
use Rattle.study.specs.declared.state.Study.{Study}
use Rattle.study.proofs.Judging.{entry, judged_decision, newest}
use Rattle.study.proofs.Seeking.{Asking, ends_fault, ends_pair, ends_settled, goes_on}

module _ {M V : Type 0} (o : Order M V) (r : Rules M) (s₀ : Study M) (log₀ : List Entry) (ls : List Level) (c : ℕ) (s : Study M) (log : List Entry) (asking : Asking o r s₀ log₀ ls c s log) (some : s.left ≡ 0 → ⊥) (room : c < length log) (q : List ℕ) (asked : q ≡ question ls) (m : M) (puts : r.puts s.map q m) (same : SameRules r s.map m) (same_order : SameOrder o s.map m) where
  -- the study once the question was put
  abbrev pub after : Study M
  after = record { map = m; left = s.left - 1; bounds = s.bounds }

  puts_asked : r.puts s.map (question ls) m
  puts_asked = subst (λ p. r.puts s.map p m) asked puts

  pub turn_fault : (f : Fault) → Err f ≡ r.meaning s.map q → Sought o r s₀ log₀ (Err (Halt.Faulted f)) after log
  turn_fault f told =
      ends_fault o r s₀ log₀ ls c s log asking after (omega arith) (omega (arith, asking.whole)) refl refl puts_asked same same_order f (told ∙ ap (r.meaning s.map) asked)

  module _ (y : List ℕ) (answered : Ok y ≡ r.meaning s.map q) (k : ℕ) (held : List Level) (kept : held ≡ ls) (agreed : decide k (drop k held) (newest log c q y) ≡ decide 0 held (newest log c q y)) where
    judged : (v : Verdict) → v ≡ verdict k (drop k held) (newest log c q y) → carried k (drop (suc k) ls) (decide (suc k) (drop (suc k) ls) (entry_of ls y)) v ≡ decision ls y
    judged v = judged_decision k held ls q y log c v room kept asked agreed

    pub turn_settled : Settled ≡ verdict k (drop k held) (newest log c q y) → Sought o r s₀ log₀ (Ok (Found.Settled q)) after (set log c (entry q y))
    turn_settled told =
        subst (λ p. Sought o r s₀ log₀ (ended_by (Outcome.settles p)) after (set log c (entry p y))) (sym asked)
        (ends_settled o r s₀ log₀ ls c s log asking after (omega arith) (omega (arith, asking.whole)) refl refl puts_asked same same_order y (answered ∙ ap (r.meaning s.map) asked) (judged Settled told))

    pub turn_pair : (low high : Entry) (number : ℕ) → number ≡ suc k → Pair low high ≡ verdict k (drop k held) (newest log c q y) → Sought o r s₀ log₀ (Ok (Found.Pair low high number)) after (set log c (entry q y))
    turn_pair low high number is told =
        subst₂ (λ n p. Sought o r s₀ log₀ (Ok (Found.Pair low high n)) after (set log c (entry p y))) (sym is) (sym asked)
        (ends_pair o r s₀ log₀ ls c s log asking after (omega arith) (omega (arith, asking.whole)) refl refl puts_asked same same_order y (answered ∙ ap (r.meaning s.map) asked) low high k (judged (Pair low high) told))

    pub turn_on : (b : Bounds) (next : List Level) → Move b ≡ verdict k (drop k held) (newest log c q y) → next ≡ reopened k b held → Asking o r s₀ log₀ next (c + 1) after (set log c (entry q y))
    turn_on b next told is =
        let reopens = move_leaves k held next (newest log c q y) b told is ∙ ap (λ l. opened b (suc k) (drop (suc k) l)) kept in
        subst₂ (λ l p. Asking o r s₀ log₀ l (c + 1) after (set log c (entry p y))) (sym reopens) (sym asked)
        (goes_on o r s₀ log₀ ls c s log asking after (omega arith) (omega (arith, asking.whole)) refl refl puts_asked same same_order y (answered ∙ ap (r.meaning s.map) asked) (opened b (suc k) (drop (suc k) ls)) (judged (Move b) told))
