-- Putting one question: with nothing left, and with something left.
use Rattle.std.proofs.Common.{◌≡◌, ℕ, ◌-◌, List, [], ◌∷◌, length, sym, refl, ap, subst, arith}
use Rattle.std.proofs.lemmas.Bool.{cond-true, cond-false, eq-eqb, ne_eqb}
use Rattle.chains.specs.Order.{Order}
use Rattle.maps.specs.Rules.{Rules, SameOrder, SameRules}
use Rattle.study.specs.Calls.{put_now}
use Rattle.study.specs.History.{Leads}
use Rattle.study.specs.History.Leads.{puts, stays}
use Rattle.study.specs.Put.{PutOne}
use Rattle.study.specs.declared.state.Study.{Study}

module _ {M V : Type 0} (o : Order M V) (r : Rules M) (s : Study M) (q : List ℕ) where
  -- nothing is left, so nothing moves
  pub spent_moved : s.left ≡ 0 → PutOne o r s q s
  spent_moved e =
      let none : put_now s q ≡ [] = cond-true _ _ _ (eq-eqb s.left 0 e) in
      record {
        box = refl;
        left = omega (arith, ap length none);
        leads = subst (λ qs. Leads r s.map qs s.map) (sym none) stays;
        same = record { dims = refl; sizes = refl; meaning = λ k. refl };
        same_order = record { size = refl; member = λ k. refl; rank = λ v. refl };
      }

  -- something is left, so the question is put
  pub put_moved : (s.left ≡ 0 → ⊥) → (t : Study M) → t.bounds ≡ s.bounds → t.left ≡ s.left - 1 → r.puts s.map q t.map → SameRules r s.map t.map → SameOrder o s.map t.map → PutOne o r s q t
  put_moved some t box left moved same same_order =
      let one : put_now s q ≡ q ∷ [] = cond-false _ _ _ (ne_eqb s.left 0 some) in
      record {
        box = box;
        left = omega (arith, ap length one, left);
        leads = subst (λ qs. Leads r s.map qs t.map) (sym one) (puts moved stays);
        same = same;
        same_order = same_order;
      }
