-- The law of studies, over every history.
use Rattle.std.proofs.Common.{◌≡◌, ℕ, ◌+◌, List, [], ◌∷◌, length, sym, ap, ◌∙◌, subst, arith}
use Rattle.chains.specs.Order.{Order}
use Rattle.points.specs.Points.{AtMost}
use Rattle.points.specs.declared.Entry.{Entry}
use Rattle.maps.specs.Rules.{Rules, RulesLaws}
use Rattle.bisection.specs.Sound.{Sound}
use Rattle.bisection.specs.declared.bounds.Bounds.{Bounds}
use Rattle.study.specs.Calls.{Call, deed}
use Rattle.study.specs.Calls.Call.{ask, raise, lower, search}
use Rattle.study.specs.History.{Did, Event, Run, due, entries_of, made, spent_by}
use Rattle.study.specs.History.Run.{none, next}
use Rattle.study.specs.Law.{Accounted, AllLawful, KeepsLaw, LawOfRuns, Lawful}
use Rattle.study.specs.Replies.{reported}
use Rattle.study.specs.declared.state.Study.{Study}
use Rattle.study.proofs.SearchLaw.{FootingPut, search_law}
use Rattle.study.proofs.Stepped.{Stepped, sound_made, sound_same, stepped_search, stepped_way}
use Rattle.study.proofs.Ways.{way_ask, way_lower, way_raise}

module _ {M V : Type 0} (o : Order M V) (r : Rules M) (laws : RulesLaws r) where
  -- what holds of every state that a history reaches
  pub record Reached (allowance : ℕ) (h : List (Event M V)) (t : Study M) : Type 0 where
    pub sound : Sound (r.meaning t.map) (r.sizes t.map) (r.dims t.map) t.bounds
    pub floor_put : FootingPut (entries_of o r h) t.bounds.floor.footing
    pub roof_put : FootingPut (entries_of o r h) t.bounds.roof.footing
    pub budget : t.left + spent_by o r h ≡ allowance

  -- every call makes a step
  stepped : (s : Study M) (strip : List V) (log : List Entry) (call : Call V) → Sound (r.meaning s.map) (r.sizes s.map) (r.dims s.map) s.bounds → Stepped (r.meaning s.map) (r.sizes s.map) (r.dims s.map) s.bounds (deed o r s strip log call)
  stepped s strip log (ask values) sound = stepped_way o r laws s strip log sound _ (way_ask o r laws s strip log values)
  stepped s strip log (raise values) sound = stepped_way o r laws s strip log sound _ (way_raise o r laws s strip log sound values)
  stepped s strip log (lower values) sound = stepped_way o r laws s strip log sound _ (way_lower o r laws s strip log sound values)
  stepped s strip log search sound = stepped_search o r laws s strip log sound

  module _ (allowance : ℕ) (h : List (Event M V)) (e : Event M V) (reached : Reached allowance h e.before) (did : Did o r e) where
    step : Stepped (r.meaning e.before.map) (r.sizes e.before.map) (r.dims e.before.map) e.before.bounds (due o r e)
    step = stepped e.before e.strip e.log e.call reached.sound

    counted : reported e.reply ≡ length (due o r e).questions
    counted = ap reported did.reply ∙ step.counted

    budget : e.after.left + spent_by o r (e ∷ h) ≡ allowance
    budget = omega (arith, counted, did.left, reached.budget)

    pub goes_on : Reached allowance (e ∷ h) e.after
    goes_on = record {
      sound = sound_same r e.before.map e.after.map e.after.bounds did.same
          (subst (Sound (r.meaning e.before.map) (r.sizes e.before.map) (r.dims e.before.map)) (sym did.box) step.steps.sound);
      floor_put = subst (λ (b : Bounds). FootingPut (entries_of o r (e ∷ h)) b.floor.footing) (sym did.box) (step.steps.floor_put (entries_of o r h) reached.floor_put);
      roof_put = subst (λ (b : Bounds). FootingPut (entries_of o r (e ∷ h)) b.roof.footing) (sym did.box) (step.steps.roof_put (entries_of o r h) reached.roof_put);
      budget = budget;
    }

    pub lawful : Lawful o r allowance h e
    lawful = record {
      searched = λ is. search_law o r h e did (ap (deed o r e.before e.strip e.log) is) reached.sound reached.floor_put reached.roof_put;
      counted = counted;
      budget = budget;
      floor = subst (λ (b : Bounds). AtMost e.before.bounds.floor.at b.floor.at) (sym did.box) step.steps.floor;
      roof = subst (λ (b : Bounds). AtMost b.roof.at e.before.bounds.roof.at) (sym did.box) step.steps.roof;
      ordered = subst (λ (b : Bounds). AtMost b.floor.at b.roof.at) (sym did.box) step.steps.sound.ordered;
    }

  reached_made : (m : M) (allowance : ℕ) → Reached allowance [] (made r m allowance)
  reached_made m allowance = record { sound = sound_made r laws m; floor_put = tt; roof_put = tt; budget = omega arith }

  reached : (m : M) (allowance : ℕ) {h : List (Event M V)} {t : Study M} → Run o r (made r m allowance) h t → Reached allowance h t
  reached m allowance none = reached_made m allowance
  reached m allowance (next {h = h} {e = e} run did) = goes_on allowance h e (reached m allowance run) did

  -- a call that did what its definition says keeps the law
  keeps_law : (e : Event M V) → Did o r e → KeepsLaw o r e
  keeps_law e did m allowance h run = (next run did, lawful allowance h e (reached m allowance run) did)

  pub accounted : (e : Event M V) → Did o r e → Accounted o r e
  accounted e did = record { did = did; law = keeps_law e did }

  -- and so does every history
  all_lawful : (m : M) (allowance : ℕ) {h : List (Event M V)} {t : Study M} → Run o r (made r m allowance) h t → AllLawful o r allowance h
  all_lawful m allowance none = tt
  all_lawful m allowance (next {h = h} {e = e} run did) = (lawful allowance h e (reached m allowance run) did, all_lawful m allowance run)

  pub law_of_runs : (m : M) (allowance : ℕ) → LawOfRuns o r m allowance
  law_of_runs m allowance h t run = all_lawful m allowance run
