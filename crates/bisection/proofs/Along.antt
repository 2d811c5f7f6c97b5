-- What holds all along a search from good levels.
use Rattle.std.proofs.Common.{◌≡◌, ℕ, suc, ◌<◌, ◌≤◌, true, List, [], ◌∷◌, length, Ok, sym, refl, ap, ◌∙◌, subst, inl, inr, ⊎_elim, arith}
use Rattle.std.proofs.lemmas.List.{ext_get_or}
use Rattle.std.proofs.lemmas.Bool.{cases_lt}
use Rattle.points.specs.declared.Entry.{Entry}
use Rattle.points.specs.Points.{rank_of, size_of, is_point, Meaning}
use Rattle.points.proofs.Tested.{point_eight_lem, point_within}
use Rattle.bisection.specs.Judge.{Decision, decision}
use Rattle.bisection.specs.Judge.Decision.{settled, pair, goes}
use Rattle.bisection.specs.Levels.{question, entry_of}
use Rattle.bisection.specs.Members.{Among, NoneTwice}
use Rattle.bisection.specs.Run.{Outcome, Ran, questions, count}
use Rattle.bisection.specs.Run.Outcome.{settles, pairs, spent, full, faults}
use Rattle.bisection.specs.declared.level.Level.{Level}
use Rattle.bisection.proofs.Future.{Reads, Coming, now_not_later}
use Rattle.bisection.proofs.Progress.{Within, Reached, Progress, Contradict, progress, agreed, contradict, pair_in}
use Rattle.bisection.proofs.Question.{question_reads, question_eight}
use Rattle.bisection.proofs.Ready.{Good, good_small}
use Rattle.bisection.proofs.Runs.{Runs}
use Rattle.bisection.proofs.Runs.Runs.{spends, fills, faulted, fixed, paired, went}
use Rattle.bisection.proofs.Still.{later}
use Rattle.bisection.proofs.Tails.{tail_end}
use Rattle.bisection.proofs.Ways.{Ways, ways}

-- an outcome other than for want of budget or room
abbrev pub Concluded : Outcome → Type 0
Concluded (settles q) = Unit {0}
Concluded (pairs low high k) = Unit {0}
Concluded spent = ⊥
Concluded full = ⊥
Concluded (faults q f) = Unit {0}

-- P of the point that is settled, if one is
abbrev pub IfSettled : (List ℕ → Type 0) → Outcome → Type 0
IfSettled P (settles q) = P q
IfSettled P (pairs low high k) = Unit {0}
IfSettled P spent = Unit {0}
IfSettled P full = Unit {0}
IfSettled P (faults q f) = Unit {0}

-- P of the pair, if there is one
abbrev pub IfPair : (Entry → Entry → ℕ → Type 0) → Outcome → Type 0
IfPair P (settles q) = Unit {0}
IfPair P (pairs low high k) = P low high k
IfPair P spent = Unit {0}
IfPair P full = Unit {0}
IfPair P (faults q f) = Unit {0}

module _ (F : Meaning) (Put : Entry → Type 0) (sizes : List ℕ) where
  -- judging begins at the lowest level
  begins : (ls : List Level) (y : List ℕ) → Good Put sizes 0 ls → Reached (entry_of ls y) 0 ls
  begins ls y g =
      record {
        eight = question_eight ls (omega (arith, good_small Put sizes 0 ls g));
        reads = question_reads ls;
        same = λ i h. absurd (omega arith);
        within = none ls;
      }
    where
      none : (us : List Level) → Within 0 (question ls) us
      none [] = tt
      none (u ∷ us) = λ i h. absurd (omega arith)

  way : (ls : List Level) (y : List ℕ) (s : Decision) → decision ls y ≡ s → Ways (entry_of ls y) 0 ls s
  way ls y s d = subst (Ways (entry_of ls y) 0 ls) d (ways (entry_of ls y) 0 ls)

  next_good : (ls next : List Level) (y : List ℕ) → Put (entry_of ls y) → decision ls y ≡ goes next → Good Put sizes 0 ls → Progress Put sizes 0 ls next
  next_good ls next y p d g = progress Put sizes (entry_of ls y) p (way ls y (goes next) d) g (begins ls y g)

  -- the first question
  first : (ls : List Level) → Good Put sizes 0 ls → (q : List ℕ) → Among q (question ls ∷ []) → Coming 0 ls q × (length q ≡ 8)
  first ls g q (inl s) = (
    inl (subst (λ x. Reads x 0 ls) (sym s) (question_reads ls)),
    ap length s ∙ question_eight ls (omega (arith, good_small Put sizes 0 ls g)),
  )
  first ls g q (inr b) = absurd b

  -- each question was to come, and has eight ranks
  pub questions_come : {ls : List Level} {left room : ℕ} {r : Ran} → Runs F ls left room r → Good Put sizes 0 ls → ((e : Entry) → Among e r.entries → Put e) → (q : List ℕ) → Among q (questions r) → Coming 0 ls q × (length q ≡ 8)
  questions_come spends g puts q b = absurd b
  questions_come fills g puts q b = absurd b
  questions_come (faulted {ls = ls} a) g puts q b = first ls g q b
  questions_come (fixed {ls = ls} a d) g puts q b = first ls g q b
  questions_come (paired {ls = ls} a d) g puts q b = first ls g q b
  questions_come (went {ls = ls} {next = next} {y = y} {r = r} a d w) g puts q (inl s) = first ls g q (inl s)
  questions_come (went {ls = ls} {next = next} {y = y} {r = r} a d w) g puts q (inr b) =
      let p = next_good ls next y (puts (entry_of ls y) (inl refl)) d g in
      let c = questions_come w p.good (λ e c. puts e (inr c)) q b in
      (inr (p.coming q c.0), c.1)

  -- none comes twice
  pub none_twice : {ls : List Level} {left room : ℕ} {r : Ran} → Runs F ls left room r → Good Put sizes 0 ls → ((e : Entry) → Among e r.entries → Put e) → NoneTwice (questions r)
  none_twice spends g puts = tt
  none_twice fills g puts = tt
  none_twice (faulted a) g puts = (λ b. b, tt)
  none_twice (fixed a d) g puts = (λ b. b, tt)
  none_twice (paired a d) g puts = (λ b. b, tt)
  none_twice (went {ls = ls} {next = next} {y = y} {r = r} a d w) g puts =
      let p = next_good ls next y (puts (entry_of ls y) (inl refl)) d g in (
        λ b. now_not_later (question ls) 0 ls (question_reads ls)
            (p.coming (question ls) (questions_come w p.good (λ e c. puts e (inr c)) (question ls) b).0),
        none_twice w p.good (λ e c. puts e (inr c)),
      )

  -- they are no more than were to come
  pub few : {ls : List Level} {left room : ℕ} {r : Ran} → Runs F ls left room r → Good Put sizes 0 ls → ((e : Entry) → Among e r.entries → Put e) → count r ≤ suc (later 0 ls)
  few spends g puts = omega arith
  few fills g puts = omega arith
  few (faulted a) g puts = omega arith
  few (fixed a d) g puts = omega arith
  few (paired a d) g puts = omega arith
  few (went {ls = ls} {next = next} {y = y} a d w) g puts =
      let p = next_good ls next y (puts (entry_of ls y) (inl refl)) d g in
      omega (arith, p.less, few w p.good (λ e c. puts e (inr c)))

  -- with enough left and enough room the search comes to a conclusion
  pub enough : {ls : List Level} {left room : ℕ} {r : Ran} → Runs F ls left room r → Good Put sizes 0 ls → ((e : Entry) → Among e r.entries → Put e) → later 0 ls < left → later 0 ls < room → Concluded r.outcome
  enough spends g puts m n = omega arith
  enough fills g puts m n = omega arith
  enough (faulted a) g puts m n = tt
  enough (fixed a d) g puts m n = tt
  enough (paired a d) g puts m n = tt
  enough (went {ls = ls} {next = next} {y = y} a d w) g puts m n =
      let p = next_good ls next y (puts (entry_of ls y) (inl refl)) d g in
      enough w p.good (λ e c. puts e (inr c)) (omega (arith, p.less)) (omega (arith, p.less))

  -- what is settled is its own answer, and was put
  pub settled_fixed : (d : ℕ) → ((i : ℕ) → d ≤ i → i < 8 → size_of sizes i ≡ 1) → ((q y : List ℕ) → F q ≡ Ok y → is_point sizes y ≡ true) → {ls : List Level} {left room : ℕ} {r : Ran} → Runs F ls left room r → Good Put sizes 0 ls → length ls ≡ d → ((e : Entry) → Among e r.entries → Put e) → IfSettled (λ q. (F q ≡ Ok q) × Among q (questions r)) r.outcome
  settled_fixed d unused answers spends g many puts = tt
  settled_fixed d unused answers fills g many puts = tt
  settled_fixed d unused answers (faulted a) g many puts = tt
  settled_fixed d unused answers (paired a _) g many puts = tt
  settled_fixed d unused answers (fixed {ls = ls} {y = y} a s) g many puts =
      (a ∙ ap Ok (ext_get_or 0 y (question ls) (eight ∙ sym (begins ls y g).eight) same), inl refl)
    where
      eight : length y ≡ 8
      eight = point_eight_lem sizes y (answers (question ls) y a)

      same : (i : ℕ) → i < length y → rank_of y i ≡ rank_of (question ls) i
      same i h =
          ⊎_elim
          (λ lt. agreed Put sizes (entry_of ls y) (puts (entry_of ls y) (inl refl)) (way ls y settled s) g (begins ls y g) i (omega arith))
          (λ le. omega (
            arith,
            tail_end (λ j m. rank_of (question ls) j ≡ m) 0 ls (question_reads ls) i (omega arith),
            unused i (omega arith) (omega (arith, eight)),
            point_within sizes y (answers (question ls) y a) i (omega (arith, eight)),
          ))
          (cases_lt i (length ls))
  settled_fixed d unused answers (went {ls = ls} {next = next} {y = y} {r = r} a s w) g many puts =
      let p = next_good ls next y (puts (entry_of ls y) (inl refl)) s g in
      shift r.outcome
      (settled_fixed d unused answers w p.good (omega (arith, p.many)) (λ e c. puts e (inr c)))
    where
      shift : (o : Outcome) → IfSettled (λ q. (F q ≡ Ok q) × Among q (questions r)) o → IfSettled (λ q. (F q ≡ Ok q) × Among q (question ls ∷ questions r)) o
      shift (settles q) h = (h.0, inr h.1)
      shift (pairs low high k) h = tt
      shift spent h = tt
      shift full h = tt
      shift (faults q f) h = tt

  -- a pair is two entries that contradict each other
  pub pair_contradicts_lem : (d : ℕ) → ((q y : List ℕ) → F q ≡ Ok y → is_point sizes y ≡ true) → {ls : List Level} {left room : ℕ} {r : Ran} → Runs F ls left room r → Good Put sizes 0 ls → length ls ≡ d → ((e : Entry) → Among e r.entries → Put e) → IfPair (λ low high k. Contradict Put low high k × (k < d)) r.outcome
  pair_contradicts_lem d answers spends g many puts = tt
  pair_contradicts_lem d answers fills g many puts = tt
  pair_contradicts_lem d answers (faulted a) g many puts = tt
  pair_contradicts_lem d answers (fixed a _) g many puts = tt
  pair_contradicts_lem d answers (paired {ls = ls} {y = y} {low = low} {high = high} {k = k} a s) g many puts =
      let w = way ls y (pair low high k) s in (
        contradict Put sizes (entry_of ls y) (puts (entry_of ls y) (inl refl)) (point_within sizes y (answers (question ls) y a)) w g (begins ls y g),
        omega (arith, pair_in w),
      )
  pair_contradicts_lem d answers (went {ls = ls} {next = next} {y = y} a s w) g many puts =
      let p = next_good ls next y (puts (entry_of ls y) (inl refl)) s g in
      pair_contradicts_lem d answers w p.good (omega (arith, p.many)) (λ e c. puts e (inr c))
