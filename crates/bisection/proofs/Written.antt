-- A list that is written over from its front.
use Rattle.std.proofs.Common.{◌≡◌, ℕ, suc, ◌+◌, ◌<◌, List, [], ◌∷◌, ◌++◌, length, get_or, drop, set, None, ap, ◌∙◌, add-one}
use Rattle.std.proofs.lemmas.List.{drop_more, set_at}
use Rattle.bisection.specs.declared.level.Level.{Level}

-- what a read past the end of some levels would give
abbrev pub blank : Level
blank =
    record {
      bounds = record { floor = record { at = []; footing = None }; roof = record { at = []; footing = None } };
      middle = 0;
    }

-- one more is written where the new front ends
pub written : {A : Type 0} (front old : List A) (i : ℕ) (x : A) → length front ≡ i → i < length old → set (front ++ drop i old) i x ≡ front ++ x ∷ drop (suc i) old
written front old i x n h =
    ap (λ rest. set (front ++ rest) i x) (drop_more old i x h)
    ∙ set_at front (get_or old i x) (drop (i + 1) old) x i n
    ∙ ap (λ m. front ++ x ∷ drop m old) (add-one i)
