-- What is made by default: no rank is above 0.
use Rattle.std.proofs.Common.{◌≡◌, ℕ, List, Option, None, Some, replicate, sym, ap₂, ◌∙◌, arith}
use Rattle.std.proofs.lemmas.List.{ext_get_or, get_or-replicate}
use Rattle.std.specs.Array.{AllOfLen}
use Rattle.std.specs.Option.{UnwrapsOrElse}
use Rattle.points.specs.declared.Entry.{Entry}
use Rattle.bisection.specs.Bounds.{footing}

pub zeros_lem : (xs : List ℕ) → AllOfLen (λ x. x ≡ 0) xs 8 → xs ≡ replicate 8 0
zeros_lem xs h =
    ext_get_or 0 xs (replicate 8 0) h.long (λ i lt. h.at i 0 (omega (arith, h.long)) ∙ sym (get_or-replicate 8 i 0 0 (omega (arith, h.long))))

abbrev pub Zeros : Entry → Type 0
Zeros e = AllOfLen (λ x. x ≡ 0) e.point 8 × AllOfLen (λ x. x ≡ 0) e.answer 8

pub footing_or_zeros : (of : Option Entry) (e : Entry) → UnwrapsOrElse of Zeros e → e ≡ footing of
footing_or_zeros (Some x) e h = h
footing_or_zeros None e h =
    ap₂ (λ p a. record { point = p; answer = a }) (zeros_lem e.point h.0) (zeros_lem e.answer h.1)
