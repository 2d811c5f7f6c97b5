-- Lists of letters, as iterators go through them.
use Rattle.std.proofs.Common.{◌≡◌, ◌≢◌, ℕ, suc, ◌+◌, ◌<◌, Bool, true, false, Option, Some, List, [], ◌∷◌, length, drop, position, ◌==◌, refl, ap, ◌&&◌, ◌∙◌, add-one}
use Rattle.std.specs.Prelude.{slice_index}
use Rattle.std.proofs.lemmas.List.{drop_more}
use Rattle.std.proofs.lemmas.Bool.{eq-eqb, ne_eqb, cond-true, cond-false, and_left}
use Rattle.std.specs.List.{list_all, position_from}
use Rattle.std.proofs.lemmas.Iterator.Adapters.{position_from-zero}
use Rattle.chains.specs.Letters.{capitals, is_capital, place_from, place_of}

pub each_capital : (xs : List ℕ) → list_all is_capital xs ≡ capitals xs
each_capital [] = refl
each_capital (x ∷ xs) = ap (λ b. is_capital x && b) (each_capital xs)

place_by_position : (i v : ℕ) (xs : List ℕ) → position_from (λ x. x == v) i xs ≡ place_from i xs v
place_by_position i v [] = refl
place_by_position i v (x ∷ xs) = rw (add-one, place_by_position (suc i) v xs)

-- the position of the first letter that is v is its place
pub place_from_position : (v : ℕ) (xs : List ℕ) (r : Option ℕ) → r ≡ position (λ x. x == v) xs → r ≡ place_of xs v
place_from_position v xs r told = told ∙ position_from-zero (λ x. x == v) xs ∙ place_by_position 0 v xs

-- the letter stands at i, so the search for it ends there
pub place_here : (xs : List ℕ) (i v : ℕ) → i < length xs → slice_index xs i ≡ v → place_from i (drop i xs) v ≡ Some i
place_here xs i v h e = rw (drop_more xs i 0 h) (cond-true _ _ _ (eq-eqb _ _ e))

-- it does not, so the search goes on
pub place_next : (xs : List ℕ) (i v : ℕ) → i < length xs → slice_index xs i ≢ v → place_from i (drop i xs) v ≡ place_from (i + 1) (drop (i + 1) xs) v
place_next xs i v h n = rw (drop_more xs i 0 h, add-one) (cond-false _ _ _ (ne_eqb _ _ n))

-- a test of every letter ends at the first that fails, and goes on at one that passes
pub every_stops : (f : List ℕ → Bool) (t : ℕ → List ℕ → Bool) → ((x : ℕ) (xs : List ℕ) → f (x ∷ xs) ≡ (t x xs && f xs)) → (xs : List ℕ) (i : ℕ) → i < length xs → t (slice_index xs i) (drop (i + 1) xs) ≡ false → f (drop i xs) ≡ false
every_stops f t step xs i h e = ap f (drop_more xs i 0 h) ∙ step _ _ ∙ and_left _ _ e

pub every_goes : (f : List ℕ → Bool) (t : ℕ → List ℕ → Bool) → ((x : ℕ) (xs : List ℕ) → f (x ∷ xs) ≡ (t x xs && f xs)) → (xs : List ℕ) (i : ℕ) → i < length xs → t (slice_index xs i) (drop (i + 1) xs) ≡ true → f (drop i xs) ≡ f (drop (i + 1) xs)
every_goes f t step xs i h e = ap f (drop_more xs i 0 h) ∙ step _ _ ∙ ap (λ b. b && f (drop (i + 1) xs)) e
