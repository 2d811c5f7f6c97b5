use Rattle.std.proofs.Common.{◌≡◌, ℕ, List, replicate, sym, ap, ap₂, ◌∙◌, arith, rules}
use Rattle.std.specs.Array.{AllOfLen}
use Rattle.std.proofs.lemmas.Grind.{same_number_lists}
use Rattle.std.proofs.lemmas.List.{get_or-replicate}
use Rattle.transcript.proofs.session.Session.new.Goals as goal

zeros : (xs : List ℕ) → AllOfLen (λ x. x ≡ 0) xs 8 → xs ≡ replicate 8 0
zeros xs all = same_number_lists xs (replicate 8 0) all.long (λ k below. all.at k 0 (omega (arith, all.long)) ∙ sym (get_or-replicate 8 k 0 0 (omega (arith, all.long))))

pub returns : goal.returns
returns g c =
    let blank : c.default.result ≡ record { point = replicate 8 0; answer = replicate 8 0 } = ap₂ (λ p a. record { point = p; answer = a }) (zeros _ c.default.ensures.0) (zeros _ c.default.ensures.1) in
    let logged : c.resize-2.new.self.items ≡ replicate 512 c.default.result = search rules in
    record {
      study = c.new.ensures.study;
      law = c.new.ensures.law;
      dims = c.dims.ensures;
      strip = search rules;
      log = logged ∙ ap (replicate 512) blank;
      text = search rules;
    }
