-- A search tells what F said, and looks at F nowhere else.
use Rattle.std.proofs.Common.{◌≡◌, ℕ, suc, ◌≤◌, List, Ok, Err, sym, refl, ap, ◌∙◌, subst, inl, inr, arith}
use Rattle.points.specs.declared.Entry.{Entry}
use Rattle.points.specs.Points.{Meaning}
use Rattle.bisection.specs.Levels.{question, entry_of}
use Rattle.bisection.specs.Members.{Among}
use Rattle.bisection.specs.Promises.{Honest}
use Rattle.bisection.specs.Run.{Outcome, Ran, after, follow, replied, run, questions, count}
use Rattle.bisection.specs.Run.Outcome.{settles, pairs, spent, full, faults}
use Rattle.bisection.specs.declared.level.Level.{Level}
use Rattle.bisection.proofs.Runs.{Runs}
use Rattle.bisection.proofs.Runs.Runs.{spends, fills, faulted, fixed, paired, went}

module _ (F : Meaning) where
  -- each entry is F's
  entries_true : {ls : List Level} {left room : ℕ} {r : Ran} → Runs F ls left room r → (e : Entry) → Among e r.entries → F e.point ≡ Ok e.answer
  entries_true spends e b = absurd b
  entries_true fills e b = absurd b
  entries_true (faulted a) e b = absurd b
  entries_true (fixed a d) e (inl s) = subst (λ x. F x.point ≡ Ok x.answer) (sym s) a
  entries_true (fixed a d) e (inr b) = absurd b
  entries_true (paired a d) e (inl s) = subst (λ x. F x.point ≡ Ok x.answer) (sym s) a
  entries_true (paired a d) e (inr b) = absurd b
  entries_true (went a d w) e (inl s) = subst (λ x. F x.point ≡ Ok x.answer) (sym s) a
  entries_true (went a d w) e (inr b) = entries_true w e b

  -- what an outcome tells of the fault and of what was left, after n questions
  Told : ℕ → ℕ → ℕ → Outcome → Type 0
  Told left room n (settles q) = Unit {0}
  Told left room n (pairs low high k) = Unit {0}
  Told left room n spent = n ≡ left
  Told left room n full = n ≡ room
  Told left room n (faults q f) = F q ≡ Err f

  told : {ls : List Level} {left room : ℕ} {r : Ran} → Runs F ls left room r → Told left room (count r) r.outcome
  unfolding Told
  told spends = refl
  told fills = refl
  told (faulted a) = a
  told (fixed a d) = tt
  told (paired a d) = tt
  told (went {left = left} {room = room} {r = r} a d w) = more r.outcome (told w)
    where
      more : (o : Outcome) → Told left room (count r) o → Told (suc left) (suc room) (suc (count r)) o
      more (settles q) t = tt
      more (pairs low high k) t = tt
      more spent t = ap suc t
      more full t = ap suc t
      more (faults q f) t = t

  within : {ls : List Level} {left room : ℕ} {r : Ran} → Runs F ls left room r → (count r ≤ left) × (count r ≤ room)
  within spends = omega arith
  within fills = omega arith
  within (faulted a) = omega arith
  within (fixed a d) = omega arith
  within (paired a d) = omega arith
  within (went a d w) = omega (arith, within w)

  pub honest : {ls : List Level} {left room : ℕ} {r : Ran} → Runs F ls left room r → Honest F left room r
  unfolding Told
  honest {left = left} {room = room} {r = r} w =
      record {
        entries = entries_true w;
        fault = λ q f s. subst (Told left room (count r)) s (told w);
        within_left = (within w).0;
        within_room = (within w).1;
        nothing_left = λ s. subst (Told left room (count r)) s (told w);
        no_room = λ s. subst (Told left room (count r)) s (told w);
      }

  -- where G agrees with F at the questions of F's search, G's search is the same
  pub same_search : (G : Meaning) {ls : List Level} {left room : ℕ} {r : Ran} → Runs F ls left room r → ((q : List ℕ) → Among q (questions r) → G q ≡ F q) → run G ls left room ≡ r
  same_search G spends agree = refl
  same_search G fills agree = refl
  same_search G (faulted {ls = ls} {left = left} {room = room} a) agree =
      ap (replied ls (λ next. run G next left room)) (agree (question ls) (inl refl) ∙ a)
  same_search G (fixed {ls = ls} {left = left} {room = room} {y = y} a d) agree =
      ap (replied ls (λ next. run G next left room)) (agree (question ls) (inl refl) ∙ a)
      ∙ ap (follow (entry_of ls y) (λ next. run G next left room)) d
  same_search G (paired {ls = ls} {left = left} {room = room} {y = y} a d) agree =
      ap (replied ls (λ next. run G next left room)) (agree (question ls) (inl refl) ∙ a)
      ∙ ap (follow (entry_of ls y) (λ next. run G next left room)) d
  same_search G (went {ls = ls} {left = left} {room = room} {y = y} a d w) agree =
      ap (replied ls (λ next. run G next left room)) (agree (question ls) (inl refl) ∙ a)
      ∙ ap (follow (entry_of ls y) (λ next. run G next left room)) d
      ∙ ap (after (entry_of ls y)) (same_search G w (λ q b. agree q (inr b)))
