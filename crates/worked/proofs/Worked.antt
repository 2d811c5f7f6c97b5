-- The worked examples, by computation.
use Rattle.std.proofs.Common.{◌≡◌, ℕ, zero, suc, ◌-◌, ◌≤◌, List, [], ◌∷◌, replicate, refl, ap, ◌∙◌, subst, subst₂, sym, arith}
use lib.Dec.{eqb-suc-zero}
use Rattle.study.specs.Calls.{Deed}
use Rattle.study.specs.Calls.Call.{raise, lower, search}
use Rattle.study.specs.History.{whole_box}
use Rattle.study.specs.Replies.{Reply}
use Rattle.worked.specs.Examples.{Leaves, WorkedExamples, raised_box}
use Rattle.worked.proofs.Jobs.{on_sheet_lem}
use Rattle.worked.proofs.Tables.{on_memo, on_table_lem}

-- k more than n, so that it shows
abbrev past : ℕ → ℕ → ℕ
past zero n = n
past (suc k) n = suc (past k n)

at_least : (k n : ℕ) → k ≤ n → past k (n - k) ≡ n
at_least zero n h = omega arith
at_least (suc k) zero h = absurd (omega arith)
at_least (suc k) (suc n) h =
    let less : suc n - suc k ≡ n - k = omega arith in
    ap suc (ap (past k) less ∙ at_least k n (omega arith))

-- what a call leaves, given enough allowance and room, is known by what the same call leaves on a closed study given just as much and more
known : {over on : ℕ → ℕ → Deed ℕ} (P : Deed ℕ → Type 0) (k l : ℕ) → ((a r : ℕ) → over a r ≡ on a r) → ((a r : ℕ) → P (on (past k a) (past l r))) → (a r : ℕ) → k ≤ a → l ≤ r → P (over a r)
known {over = over} P k l same holds a r ha hr =
    subst₂ (λ x y. P (over x y)) (at_least k a ha) (at_least l r hr)
    (subst P (sym (same (past k (a - k)) (past l (r - l)))) (holds (a - k) (r - l)))

leaves : {over on : ℕ → ℕ → Deed ℕ} {reply : Reply} {cells : List ℕ} (k l : ℕ) → ((a r : ℕ) → over a r ≡ on a r) → ((a r : ℕ) → Leaves (on (past k a) (past l r)) reply cells) → (a r : ℕ) → k ≤ a → l ≤ r → Leaves (over a r) reply cells
leaves {reply = reply} {cells = cells} = known (λ d. Leaves d reply cells)

pub worked_examples_lem : WorkedExamples
worked_examples_lem = record {
  settles = λ m h. leaves 6 6 (λ a r. on_sheet_lem m h a r search) (λ a r. (refl, refl));
  questions = λ m h. ap (λ x. x.questions) (on_sheet_lem m h 6 6 search);
  spent = λ m h r hr. leaves 0 5 (λ a r. on_sheet_lem m h 5 r search) (λ a r. (refl, refl)) 0 r (omega arith) hr;
  full = λ m h a ha. leaves 6 0 (λ a r. on_sheet_lem m h a 5 search) (λ a r. (refl, refl)) a 0 ha (omega arith);
  raises = λ m h a ha. leaves 1 0 (λ a r. on_sheet_lem m h a 0 (raise (100 ∷ 100 ∷ []))) (λ a r. rw (eqb-suc-zero a) (refl, refl)) a 0 ha (omega arith);
  raises_floor = λ m h a ha. known (λ d. d.box ≡ raised_box) 1 0 (λ a r. on_sheet_lem m h a 0 (raise (100 ∷ 100 ∷ []))) (λ a r. rw (eqb-suc-zero a)) a 0 ha (omega arith);
  lowers = λ m h a ha. leaves 1 0 (λ a r. on_sheet_lem m h a 0 (lower (150 ∷ 200 ∷ []))) (λ a r. rw (eqb-suc-zero a) (refl, refl)) a 0 ha (omega arith);
  lowers_nothing = λ m h a ha. known (λ d. d.box ≡ whole_box (12 ∷ 22 ∷ replicate 6 1)) 1 0 (λ a r. on_sheet_lem m h a 0 (lower (150 ∷ 200 ∷ []))) (λ a r. rw (eqb-suc-zero a)) a 0 ha (omega arith);
  crossed = λ m h. leaves 2 2 (λ a r. on_table_lem _ m h a r search) (λ a r. (refl, refl));
  unlisted = λ m h. leaves 1 1 (λ a r. on_table_lem _ m h a r search) (λ a r. (refl, refl));
  unlisted_below = λ m h. leaves 1 1 (λ a r. on_memo _ m h a r search) (λ a r. (refl, refl));
  both_fixed = λ m h. leaves 1 1 (λ a r. on_table_lem _ m h a r search) (λ a r. (refl, refl));
  three = refl;
  four = refl;
  widest = refl;
}
