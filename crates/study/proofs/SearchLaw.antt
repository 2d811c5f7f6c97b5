-- What is promised of a search follows from the theorems of the nested bisection.
use Rattle.std.proofs.Common.{◌≡◌, ℕ, suc, ◌-◌, ◌*◌, ◌<◌, ◌≤◌, Bool, true, false, cond, ltb, ◌⊎◌, List, [], ◌∷◌, ◌++◌, length, Some, None, Ok, Err, Option, sym, refl, ap, ◌∙◌, subst, inl, inr, arith}
use Rattle.std.proofs.lemmas.Bool.{ltb-true}
use Rattle.chains.specs.Order.{Order}
use Rattle.points.specs.Points.{Meaning, rank_of}
use Rattle.points.specs.declared.Entry.{Entry}
use Rattle.points.specs.declared.Fault.{Fault}
use Rattle.maps.specs.Rules.{Rules}
use Rattle.bisection.specs.Bits.{product}
use Rattle.bisection.specs.Members.{Among, NoneTwice}
use Rattle.bisection.specs.Promises.{WasPut}
use Rattle.bisection.specs.Run.{Outcome, Ran, count, questions}
use Rattle.bisection.specs.Sound.{Sound}
use Rattle.bisection.proofs.Promised.{enough_suffices, monotone_has_no_pair_lem, no_question_twice_lem, pair_is_contradiction, questions_are_few, settled_is_fixed_lem}
use Rattle.study.specs.Calls.{Deed, found_reply, found_strip, left_by, refused_after, searched_box}
use Rattle.study.specs.History.{Did, Event, due, entries_of}
use Rattle.study.specs.Law.{Searched}
use Rattle.study.specs.Seek.{due_search}
use Rattle.study.specs.declared.reply.Refusal.TheVariants.{Strip, Faulted}
use Rattle.study.specs.declared.reply.Report.{Report}
use Rattle.study.specs.declared.reply.Report.TheVariants.{Settled, Pair}
use Rattle.study.specs.declared.state.Study.{Study}

-- a member stays one in a longer list
pub among_left : {A : Type 0} (x : A) (xs ys : List A) → Among x xs → Among x (xs ++ ys)
among_left x [] ys m = absurd m
among_left x (y ∷ xs) ys (inl e) = inl e
among_left x (y ∷ xs) ys (inr m) = inr (among_left x xs ys m)

pub among_right : {A : Type 0} (x : A) (xs ys : List A) → Among x ys → Among x (xs ++ ys)
among_right x [] ys m = m
among_right x (y ∷ xs) ys m = inr (among_right x xs ys m)

-- a footing was put, if there is one
abbrev pub FootingPut : List Entry → Option Entry → Type 0
FootingPut es None = Unit {0}
FootingPut es (Some e) = Among e es

pub footing_put : (es : List Entry) (o : Option Entry) (e : Entry) → FootingPut es o → o ≡ Some e → Among e es
footing_put es None e m t = absurd cc
footing_put es (Some x) e m t = let s : x ≡ e = cc in subst (λ y. Among y es) s m

module _ {M V : Type 0} (o : Order M V) (r : Rules M) (s : Study M) (strip : List V) (log : List Entry) where
  -- which outcome a reply tells of
  settled_out : (n c : ℕ) (out : Outcome) → found_reply o r s strip log n out ≡ Ok (Settled c) → (q : List ℕ) × (out ≡ Outcome.settles q)
  settled_out n c (Outcome.settles q) e = (q, refl)
  settled_out n c (Outcome.pairs low high k) e = absurd cc
  settled_out n c Outcome.spent e = absurd cc
  settled_out n c Outcome.full e = absurd cc
  settled_out n c (Outcome.faults q f) e = absurd cc

  pair_out : (n c k : ℕ) (out : Outcome) → found_reply o r s strip log n out ≡ Ok (Pair c k) → (low : Entry) × (high : Entry) × (i : ℕ) × (out ≡ Outcome.pairs low high i) × (k ≡ suc i)
  pair_out n c k (Outcome.settles q) e = absurd cc
  pair_out n c k (Outcome.pairs low high i) e = let t : k ≡ suc i = cc in (low, high, i, refl, t)
  pair_out n c k Outcome.spent e = absurd cc
  pair_out n c k Outcome.full e = absurd cc
  pair_out n c k (Outcome.faults q f) e = absurd cc

  -- with enough of both, only a fault refuses
  fault_only : (n : ℕ) (out : Outcome) → (out ≡ Outcome.spent → ⊥) → (out ≡ Outcome.full → ⊥) → ((report : Report) × (found_reply o r s strip log n out ≡ Ok report)) ⊎ ((f : Fault) × (c : ℕ) × (found_reply o r s strip log n out ≡ Err (Faulted f c)))
  fault_only n (Outcome.settles q) a b = inl (Settled n, refl)
  fault_only n (Outcome.pairs low high k) a b = inl (Pair n (suc k), refl)
  fault_only n Outcome.spent a b = absurd (a refl)
  fault_only n Outcome.full a b = absurd (b refl)
  fault_only n (Outcome.faults q f) a b = inr (f, n, refl)

module _ {M V : Type 0} (o : Order M V) (r : Rules M) (h : List (Event M V)) (e : Event M V) (did : Did o r e) where
  -- the strip was too short
  refused_short : due o r e ≡ refused_after o r e.before e.strip e.log [] Strip → length e.strip < 4 * r.dims e.before.map → Searched o r h e
  refused_short is short =
      let reply = did.reply ∙ ap (λ (d : Deed V). d.reply) is in
      let none = ap (λ (d : Deed V). d.questions) is in
      record {
        settled = λ c t. absurd cc;
        pair = λ c k t. absurd cc;
        monotone = λ m c k t. cc;
        once = subst NoneTwice (sym none) tt;
        few = omega (arith, ap length none);
        enough = λ room. absurd (omega arith);
      }

  module _ (sound : Sound (r.meaning e.before.map) (r.sizes e.before.map) (r.dims e.before.map) e.before.bounds) (floor_put : FootingPut (entries_of o r h) e.before.bounds.floor.footing) (roof_put : FootingPut (entries_of o r h) e.before.bounds.roof.footing) (is : due o r e ≡ left_by o r e.before e.strip e.log (due_search r e.before e.log)) where
    abbrev F : Meaning
    F = r.meaning e.before.map

    abbrev d : ℕ
    d = r.dims e.before.map

    abbrev ran : Ran
    ran = due_search r e.before e.log

    told : e.reply ≡ found_reply o r e.before e.strip e.log (count ran) ran.outcome
    told = did.reply ∙ ap (λ (x : Deed V). x.reply) is

    shows : e.strip_after ≡ found_strip o r e.before e.strip e.log ran.outcome
    shows = did.strip ∙ ap (λ (x : Deed V). x.strip) is

    asked : (due o r e).questions ≡ questions ran
    asked = ap (λ (x : Deed V). x.questions) is

    -- what the search put, it or an earlier call put
    was_put : (x : Entry) → WasPut e.before.bounds ran x → Among x (entries_of o r (e ∷ h))
    was_put x (inl m) = among_left x (due o r e).entries (entries_of o r h) (subst (λ es. Among x es) (sym (ap (λ (y : Deed V). y.entries) is)) m)
    was_put x (inr (inl t)) = among_right x (due o r e).entries (entries_of o r h) (footing_put (entries_of o r h) e.before.bounds.floor.footing x floor_put t)
    was_put x (inr (inr t)) = among_right x (due o r e).entries (entries_of o r h) (footing_put (entries_of o r h) e.before.bounds.roof.footing x roof_put t)

    searched_long : Searched o r h e
    searched_long = record {
      settled = λ c t.
          let found = settled_out o r e.before e.strip e.log (count ran) c ran.outcome (sym told ∙ t) in
          let fixed = settled_is_fixed_lem F (r.sizes e.before.map) d e.before.bounds e.before.left (length e.log) sound found.0 found.1 in
          (found.0, record { in_box = fixed.0; fixed = fixed.2; shown = shows ∙ ap (found_strip o r e.before e.strip e.log) found.1 });
      pair = λ c k t.
          let found = pair_out o r e.before e.strip e.log (count ran) c k ran.outcome (sym told ∙ t) in
          let proof = pair_is_contradiction F (r.sizes e.before.map) d e.before.bounds e.before.left (length e.log) sound found.0 found.1 found.2 found.3 in
          let s : found.2 ≡ k - 1 = omega (arith, found.4) in (
            found.0,
            found.1,
            record {
              put_low = was_put found.0 proof.0.put_low;
              put_high = was_put found.1 proof.0.put_high;
              answered_low = proof.0.true_low;
              answered_high = proof.0.true_high;
              in_order = proof.0.points;
              named = omega (arith, found.4, proof.1);
              against = subst (λ i. rank_of found.1.answer i < rank_of found.0.answer i) s proof.0.answers;
              shown = shows ∙ ap (found_strip o r e.before e.strip e.log) found.3;
            },
          );
      monotone = λ m c k t.
          let found = pair_out o r e.before e.strip e.log (count ran) c k ran.outcome (sym told ∙ t) in
          monotone_has_no_pair_lem F (r.sizes e.before.map) d e.before.bounds e.before.left (length e.log) sound m found.0 found.1 found.2 found.3;
      once = subst NoneTwice (sym asked) (no_question_twice_lem F (r.sizes e.before.map) d e.before.bounds e.before.left (length e.log) sound);
      few = subst (λ qs. length qs ≤ product d e.before.bounds) (sym asked) (questions_are_few F (r.sizes e.before.map) d e.before.bounds e.before.left (length e.log) sound);
      enough = λ room log_room left_room.
          let never = enough_suffices F (r.sizes e.before.map) d e.before.bounds e.before.left (length e.log) sound left_room log_room in
          at (fault_only o r e.before e.strip e.log (count ran) ran.outcome never.0 never.1);
    }
      where
        at : ((report : Report) × (found_reply o r e.before e.strip e.log (count ran) ran.outcome ≡ Ok report)) ⊎ ((f : Fault) × (c : ℕ) × (found_reply o r e.before e.strip e.log (count ran) ran.outcome ≡ Err (Faulted f c))) → ((report : Report) × (e.reply ≡ Ok report)) ⊎ ((f : Fault) × (c : ℕ) × (e.reply ≡ Err (Faulted f c)))
        at (inl x) = inl (x.0, told ∙ x.1)
        at (inr x) = inr (x.0, x.1, told ∙ x.2)

  -- both ways
  search_if : (b : Bool) → ltb (length e.strip) (4 * r.dims e.before.map) ≡ b → due o r e ≡ cond b (refused_after o r e.before e.strip e.log [] Strip) (left_by o r e.before e.strip e.log (due_search r e.before e.log)) → Sound (r.meaning e.before.map) (r.sizes e.before.map) (r.dims e.before.map) e.before.bounds → FootingPut (entries_of o r h) e.before.bounds.floor.footing → FootingPut (entries_of o r h) e.before.bounds.roof.footing → Searched o r h e
  search_if true t is sound floor_put roof_put = refused_short is (ltb-true (length e.strip) (4 * r.dims e.before.map) t)
  search_if false t is sound floor_put roof_put = searched_long sound floor_put roof_put is

  pub search_law : due o r e ≡ searched_box o r e.before e.strip e.log → Sound (r.meaning e.before.map) (r.sizes e.before.map) (r.dims e.before.map) e.before.bounds → FootingPut (entries_of o r h) e.before.bounds.floor.footing → FootingPut (entries_of o r h) e.before.bounds.roof.footing → Searched o r h e
  search_law is = search_if (ltb (length e.strip) (4 * r.dims e.before.map)) refl is
