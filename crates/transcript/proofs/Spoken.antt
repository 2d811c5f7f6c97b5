-- Words that are appended one after the other.
use Rattle.std.proofs.Common.{◌≡◌, ℕ, ◌+◌, ◌<◌, List, [], ◌∷◌, ◌++◌, map, length, get_or, take, sym, refl, ap, ◌∙◌, append_assoc}
use Rattle.std.proofs.lemmas.List.{append-nil, map-append, take_more}
use Rattle.transcript.specs.Text.{words_on}

-- words in two parts
pub words_append : (us ws : List (List ℕ)) → words_on (us ++ ws) ≡ words_on us ++ words_on ws
words_append [] ws = refl
words_append (u ∷ us) ws = ap (λ t. 32 ∷ (u ++ t)) (words_append us ws) ∙ ap (λ t. 32 ∷ t) (sym (append_assoc u (words_on us) (words_on ws)))

-- one more value behind a blank
pub words_more : {V : Type 0} (show : V → List ℕ) (values : List V) (i : ℕ) (v : V) → i < length values → v ≡ get_or values i v → words_on (map show (take (i + 1) values)) ≡ words_on (map show (take i values)) ++ 32 ∷ show v
words_more show values i v h read =
    ap (λ vs. words_on (map show vs)) (take_more values i v h ∙ ap (λ x. take i values ++ x ∷ []) (sym read))
    ∙ ap words_on (map-append show (take i values) (v ∷ []))
    ∙ words_append (map show (take i values)) (show v ∷ [])
    ∙ ap (λ t. words_on (map show (take i values)) ++ 32 ∷ t) (append-nil (show v))
