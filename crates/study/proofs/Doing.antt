-- How the parts of a call make up what its definition says.
use Rattle.std.proofs.Common.{◌≡◌, ℕ, ◌+◌, Bool, true, false, cond, eqb, List, [], ◌∷◌, length, Ok, Err, Result, sym, refl, ap, ◌∙◌, subst, subst₂, arith}
use Rattle.chains.specs.Order.{Order}
use Rattle.points.specs.declared.Entry.{Entry}
use Rattle.points.specs.declared.Fault.{Fault}
use Rattle.maps.specs.Rules.{Rules, RulesLaws, SameOrder, SameRules}
use Rattle.bisection.specs.declared.bounds.Bounds.{Bounds}
use Rattle.study.specs.Calls.{Call, Deed, answer_to, answered, deed, or_faulted, put_now, refused_after, with_answer, with_point, with_reply}
use Rattle.study.specs.History.{Leads, event}
use Rattle.study.specs.History.Leads.{stays}
use Rattle.study.specs.Law.{Accounted}
use Rattle.study.specs.Put.{PutOne, strip_told}
use Rattle.study.specs.Replies.{Reply}
use Rattle.study.specs.declared.reply.Refusal.{Refusal}
use Rattle.study.specs.declared.reply.Refusal.TheVariants.{Spent}
use Rattle.study.specs.declared.state.Study.{Study}
use Rattle.study.proofs.Lawfully.{accounted}

-- a question that was answered was put
answered_if : (b : Bool) (told : Result (List ℕ) Fault) (q y : List ℕ) → Ok y ≡ cond b (Err (Spent 0)) (or_faulted told) → cond b [] (q ∷ []) ≡ q ∷ []
answered_if true told q y e = absurd cc
answered_if false told q y e = refl

module _ {M V : Type 0} (o : Order M V) (r : Rules M) (laws : RulesLaws r) (s : Study M) (strip : List V) (log : List Entry) (call : Call V) where
  -- a call is accounted for by a deed that is what it was to leave
  pub by_deed : (D : Deed V) → deed o r s strip log call ≡ D → (reply : Reply) (t : Study M) (strip_after : List V) (log_after : List Entry) → reply ≡ D.reply → strip_after ≡ D.strip → log_after ≡ D.log → t.bounds ≡ D.box → t.left + length D.questions ≡ s.left → Leads r s.map D.questions t.map → SameRules r s.map t.map → SameOrder o s.map t.map → Accounted o r (event call s strip log reply t strip_after log_after)
  by_deed D is reply t strip_after log_after replies shows logs box left leads same same_order = accounted o r laws _ (record {
    reply = replies ∙ sym (ap (λ (d : Deed V). d.reply) is);
    strip = shows ∙ sym (ap (λ (d : Deed V). d.strip) is);
    log = logs ∙ sym (ap (λ (d : Deed V). d.log) is);
    box = box ∙ sym (ap (λ (d : Deed V). d.box) is);
    left = ap (λ (d : Deed V). t.left + length d.questions) is ∙ left;
    leads = subst (λ (d : Deed V). Leads r s.map d.questions t.map) (sym is) leads;
    same = same;
    same_order = same_order;
  })

  -- refused before any question
  pub unput : (reply : Reply) (refusal : Refusal) → reply ≡ Err refusal → deed o r s strip log call ≡ refused_after o r s strip log [] refusal → Accounted o r (event call s strip log reply s strip log)
  unput reply refusal told is =
      by_deed _ is reply s strip log told refl refl refl (omega arith) stays
      (record { dims = refl; sizes = refl; meaning = λ k. refl }) (record { size = refl; member = λ k. refl; rank = λ v. refl })

  -- a call that puts the point b, if it is one, and does what is next with the answer
  module _ (b : Result (List ℕ) Refusal) (next : Entry → Deed V) (does : deed o r s strip log call ≡ with_point o r s strip log b (λ q. with_answer o r s strip log q next)) where
    -- it is none
    pub unnamed : (reply : Reply) (refusal : Refusal) → reply ≡ Err refusal → Err refusal ≡ b → Accounted o r (event call s strip log reply s strip log)
    unnamed reply refusal told e =
        unput reply refusal told (does ∙ ap (λ x. with_point o r s strip log x (λ q. with_answer o r s strip log q next)) (sym e))

    module _ (q : List ℕ) (named : Ok q ≡ b) (told : Result (List ℕ) Refusal) (t : Study M) (shown : List V) (is : told ≡ answer_to r s q) (put : PutOne o r s q t) (shows : shown ≡ strip_told o r s strip told) where
      does_told : deed o r s strip log call ≡ with_reply o r s strip log q next told
      does_told =
          does ∙ ap (λ x. with_point o r s strip log x (λ p. with_answer o r s strip log p next)) (sym named)
          ∙ ap (with_reply o r s strip log q next) (sym is)

      -- it was put, or due, and refused
      pub unanswered : (reply : Reply) (refusal : Refusal) → reply ≡ Err refusal → told ≡ Err refusal → Accounted o r (event call s strip log reply t shown log)
      unanswered reply refusal replies e =
          by_deed _ (does_told ∙ ap (with_reply o r s strip log q next) e) reply t shown log replies (shows ∙ ap (strip_told o r s strip) e) refl
          put.box put.left put.leads put.same put.same_order

      -- it was answered, and the study is then u
      pub answers : (y : List ℕ) (reply : Reply) (box : Bounds) (u : Study M) → told ≡ Ok y → next (record { point = q; answer = y }) ≡ answered o r s strip log (record { point = q; answer = y }) reply box → u.bounds ≡ box → u.map ≡ t.map → u.left ≡ t.left → Accounted o r (event call s strip log reply u shown log)
      answers y reply box u e moved box_is same_map same_left =
          let one : put_now s q ≡ q ∷ [] = answered_if (eqb s.left 0) (r.meaning s.map q) q y (sym e ∙ is) in
          by_deed _ (does_told ∙ ap (with_reply o r s strip log q next) e ∙ moved) reply u shown log refl (shows ∙ ap (strip_told o r s strip) e) refl
          box_is (omega (arith, same_left, put.left, ap length one)) (subst₂ (Leads r s.map) one (sym same_map) put.leads)
          (subst (SameRules r s.map) (sym same_map) put.same) (subst (SameOrder o s.map) (sym same_map) put.same_order)
