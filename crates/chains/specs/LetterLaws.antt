-- Lists of letters step by step, and the laws of the grade chain.
use Rattle.std.specs.Prelude.{◌≡◌, ℕ, zero, suc, ◌+◌, ◌<◌, ◌≤◌, Bool, true, false, cond, ltb, List, [], ◌∷◌, length, is_some, Some, None, Option, ◌==◌, nat_lt, refl}
use Rattle.std.proofs.Common.{sym, ap, ◌∙◌, ⊎_elim, add-zero, zero-add, arith}
use Rattle.std.specs.List.{slice_get}
use Rattle.std.proofs.lemmas.List.{length-take-le}
use Rattle.std.proofs.lemmas.Option.{slice_get-get_or, slice_get_past}
use Rattle.std.proofs.lemmas.Bool.{eq-eqb, eqb-true, lt-ltb, le-ltb, ltb-true, le-leb, cond-true, and_parts, not-true, both_ways, cases_lt}
use Rattle.chains.specs.Order.{OrderLaws}
use Rattle.chains.specs.GradeOrder.{grade_order, grades_fault, listed}
use Rattle.chains.specs.Letters.{place_from, place_of, capitals, different}

-- nothing is found in an empty list
nowhere : {P : Type 0} (o : Option ℕ) (v : ℕ) → o ≡ None → o ≡ Some v → P
nowhere o v n e = let z : ◌≡◌ {A = ℕ} 0 1 = cc in absurd (omega arith)

-- what is found from i on stands that far behind i
found_by : (x : ℕ) (xs : List ℕ) (i v r : ℕ) (b : Bool) → (x == v) ≡ b → cond b (Some i) (place_from (suc i) xs v) ≡ Some r → (place_from (suc i) xs v ≡ Some r → (k : ℕ) × (r ≡ suc i + k) × (slice_get xs k ≡ Some v)) → (k : ℕ) × (r ≡ i + k) × (slice_get (x ∷ xs) k ≡ Some v)
found_by x xs i v r true t e rest = let s : i ≡ r = cc in (0, omega arith, ap Some (eqb-true x v t))
found_by x xs i v r false t e rest = let k = rest e in (suc k.0, omega (arith, k.1), k.2)

found : (xs : List ℕ) (i v r : ℕ) → place_from i xs v ≡ Some r → (k : ℕ) × (r ≡ i + k) × (slice_get xs k ≡ Some v)
found [] i v r e = nowhere None r refl e
found (x ∷ xs) i v r e = found_by x xs i v r (x == v) refl e (found xs (suc i) v r)

-- in a list without repeats the letter at k is found at k
finds_by : (x : ℕ) (xs : List ℕ) (i k v : ℕ) (b : Bool) → (x == v) ≡ b → is_some (place_of xs x) ≡ false → place_of xs v ≡ Some (0 + k) → place_from (suc i) xs v ≡ Some (suc i + k) → cond b (Some i) (place_from (suc i) xs v) ≡ Some (i + suc k)
finds_by x xs i k v true t once again rest =
    let clash : is_some (place_of xs v) ≡ false = rw (← eqb-true x v t) once in
    let two : is_some (place_of xs v) ≡ true = rw again refl in
    absurd (both_ways _ clash two)
finds_by x xs i k v false t once again rest = rest ∙ ap Some (omega arith)

pub finds : (xs : List ℕ) (i k v : ℕ) → different xs ≡ true → slice_get xs k ≡ Some v → place_from i xs v ≡ Some (i + k)
finds [] i k v d e = nowhere None v refl e
finds (x ∷ xs) i zero v d e = let s : x ≡ v = cc in cond-true _ _ _ (eq-eqb x v s) ∙ ap Some (sym (add-zero i))
finds (x ∷ xs) i (suc k) v d e =
    let parts = and_parts _ _ d in
    finds_by x xs i k v (x == v) refl (not-true _ parts.0) (finds xs 0 k v parts.1 e) (finds xs (suc i) k v parts.1 e)

some_at : (xs : List ℕ) (k : ℕ) → is_some (slice_get xs k) ≡ nat_lt k (length xs)
some_at xs k =
    ⊎_elim (λ h. rw (slice_get-get_or xs k 0 h) (sym (lt-ltb k (length xs) h))) (λ h. rw (slice_get_past xs k h) (sym (le-ltb k (length xs) h)))
    (cases_lt k (length xs))

placed : (xs : List ℕ) (v r : ℕ) → place_of xs v ≡ Some r → slice_get xs r ≡ Some v
placed xs v r e = let k = found xs 0 v r e in let s : r ≡ k.0 = omega (arith, k.1) in rw s k.2

-- a place lies in the list
pub place_below : (xs : List ℕ) (v r : ℕ) → place_of xs v ≡ Some r → r < length xs
place_below xs v r e = ltb-true r (length xs) (sym (some_at xs r) ∙ ap is_some (placed xs v r e))

pub grade_laws : OrderLaws grade_order
grade_laws = record {
  sized = λ c. omega arith;
  members = λ c r. some_at (listed c) r ∙ ap (λ n. ltb r n) (length-take-le c.count c.letters (omega arith));
  ranked = λ c r v e. finds (listed c) 0 r v c.distinct e ∙ ap Some (zero-add r);
  placed = λ c v r e. placed (listed c) v r e;
}

-- nothing is wrong with one to eight different capitals
pub no_fault : (xs : List ℕ) → 1 ≤ length xs → length xs ≤ 8 → capitals xs ≡ true → different xs ≡ true → grades_fault xs ≡ None
no_fault xs some most capital distinct =
    rw (le-leb 1 (length xs) some, le-leb (length xs) 8 most, capital, distinct)
