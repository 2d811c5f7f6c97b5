-- Written letters have the form of letters, and written points are read back.
use Rattle.std.proofs.Common.{◌≡◌, ℕ, zero, suc, ◌<◌, ◌≤◌, Bool, true, false, cond, ◌&&◌, ◌||◌, eqb, ◌⊎◌, List, [], ◌∷◌, map, length, get_or, take, is_some, Some, None, Ok, unwrap_or, sym, refl, ap, ◌∙◌, subst, inl, inr, zero-add, arith}
use Rattle.std.specs.List.{slice_get}
use Rattle.std.proofs.lemmas.List.{get_or-map, get_or-take, length-map, length-take}
use Rattle.std.proofs.lemmas.Option.{slice_get-get_or, slice_get_past}
use Rattle.std.proofs.lemmas.Bool.{and_from, and_parts, cases_lt, eq-eqb, le-ltb, leb-true, lt-ltb, ne_eqb}
use Rattle.std.proofs.lemmas.Bool.Decides.{nat_tests}
use Rattle.chains.specs.Letters.{capitals, different, is_capital, place_of}
use Rattle.chains.specs.LetterLaws.{finds}
use Rattle.points.specs.Points.{is_point}
use Rattle.points.proofs.Eight.{eight_at, eight_from}
use Rattle.points.proofs.Tested.{point_eight_lem, point_within}
use Rattle.maps.specs.Replies.{row_size, row_sizes}
use Rattle.sheets.specs.CallsBody.{letter_value}
use Rattle.sheets.specs.Classes.{class_of, from}
use Rattle.sheets.specs.Dues.{any_letters}
use Rattle.sheets.specs.Forms.{all_of, form_of, is_mark, is_numeral, letters, mark, mixed, name, number, number_after}
use Rattle.sheets.specs.RowsBody.{all_listed, point_due, point_of, rank_at, ranks_of}
use Rattle.sheets.specs.Written.{LetterFits, letters_at}
use Rattle.sheets.specs.declared.classes.Class.TheVariants.{Capital, Small}
use Rattle.sheets.proofs.Spaced.{IsWord, all_in, written_word}
use Rattle.sheets.proofs.WrittenDues.{at_words}

capital_byte : (c : ℕ) → is_capital c ≡ true → (65 ≤ c) × (c ≤ 90)
capital_byte c t = let parts = and_parts _ _ t in (leb-true 65 c parts.0, leb-true c 90 parts.1)

capital_class : (c : ℕ) → is_capital c ≡ true → class_of c ≡ Capital
capital_class c t =
    let b = capital_byte c t in
    let low = b.0 in
    let high = b.1 in
    let x : eqb c 10 ≡ false = ne_eqb c 10 (λ e. omega arith) in
    let y : eqb c 32 ≡ false = ne_eqb c 32 (λ e. omega arith) in
    let z : eqb c 45 ≡ false = ne_eqb c 45 (λ e. omega arith) in
    let d : from 48 57 c ≡ false = grind (arith, nat_tests) in
    let u : from 65 90 c ≡ true = t in
    rw (x, y, z, d, u)

all_capital : (xs : List ℕ) → capitals xs ≡ true → all_of Capital xs ≡ true
all_capital [] t = refl
all_capital (c ∷ cs) t =
    let parts = and_parts (is_capital c) _ t in
    rw (capital_class c parts.0) (all_capital cs parts.1)

all_in_lem : (xs : List ℕ) → capitals xs ≡ true → all_in xs ≡ true
all_in_lem [] t = refl
all_in_lem (c ∷ cs) t =
    let parts = and_parts (is_capital c) _ t in
    rw (capital_class c parts.0) (all_in_lem cs parts.1)

-- capitals are neither a mark nor a name
pub letters_form : (xs : List ℕ) → 0 < length xs → capitals xs ≡ true → form_of xs ≡ letters xs
letters_form [] some t = absurd (omega arith)
letters_form (c ∷ cs) some t =
    let k = capital_class c (and_parts (is_capital c) _ t).0 in
    let b = capital_byte c (and_parts (is_capital c) _ t).0 in
    let low = b.0 in
    let high = b.1 in
    let h : eqb c 104 ≡ false = ne_eqb c 104 (λ e. omega arith) in
    let p : eqb c 112 ≡ false = ne_eqb c 112 (λ e. omega arith) in
    let m : eqb c 45 ≡ false = ne_eqb c 45 (λ e. omega arith) in
    let small : all_of Small (c ∷ cs) ≡ false = rw k in
    formed (is_mark (c ∷ cs)) (all_of Small (c ∷ cs)) (all_of Capital (c ∷ cs)) (by_length (eqb (length (c ∷ cs)) 1) h p m) small (all_capital (c ∷ cs) t)
  where
    by_length : (one : Bool) → eqb c 104 ≡ false → eqb c 112 ≡ false → eqb c 45 ≡ false → (one && (eqb c 104 || (eqb c 112 || eqb c 45))) ≡ false
    by_length true h p m = rw (h, p, m)
    by_length false h p m = refl

    formed : (a b d : Bool) → a ≡ false → b ≡ false → d ≡ true → cond a (mark c) (cond b (name (c ∷ cs)) (cond d (letters (c ∷ cs)) (cond (is_numeral (c ∷ cs)) (number (number_after 0 (c ∷ cs))) mixed))) ≡ letters (c ∷ cs)
    formed a b d p q r = rw (p, q, r)

pub letters_word : (xs : List ℕ) → 0 < length xs → capitals xs ≡ true → IsWord xs
letters_word xs some t = record { some = some; bytes = all_in_lem xs t }

pub letters_written : (xs : List ℕ) (ws : List (List ℕ)) (rest : List ℕ) (line : ℕ) → 0 < length xs → capitals xs ≡ true → any_letters (at_words (xs ∷ ws) rest line) ≡ Ok (xs, at_words ws rest line)
unfolding any_letters
letters_written xs ws rest line some t = rw (written_word xs ws rest line (letters_word xs some t), letters_form xs some t)

pub letter_word_lem : (v : ℕ) → LetterFits v → IsWord (v ∷ [])
letter_word_lem v h = letters_word (v ∷ []) (omega arith) (and_from _ _ h refl)

pub letter_back : (v : ℕ) (ws : List (List ℕ)) (rest : List ℕ) (line : ℕ) → LetterFits v → letter_value (at_words ((v ∷ []) ∷ ws) rest line) ≡ Ok (v, at_words ws rest line)
unfolding letter_value
letter_back v ws rest line h = rw (letters_written (v ∷ []) ws rest line (omega arith) (and_from _ _ h refl))

capital_at : (xs : List ℕ) (r : ℕ) → capitals xs ≡ true → r < length xs → is_capital (get_or xs r 0) ≡ true
capital_at [] r t h = absurd (omega arith)
capital_at (x ∷ xs) zero t h = (and_parts _ _ t).0
capital_at (x ∷ xs) (suc r) t h = capital_at xs r (and_parts (is_capital x) _ t).1 (omega arith)

-- the letter at a rank has that rank
place_at : (xs : List ℕ) (r : ℕ) → different xs ≡ true → r < length xs → place_of xs (get_or xs r 0) ≡ Some r
place_at xs r d h = finds xs 0 r (get_or xs r 0) d (slice_get-get_or xs r 0 h) ∙ ap Some (zero-add r)

-- each of some ranks is below n
abbrev Below : ℕ → List ℕ → Type 0
Below n [] = Unit {0}
Below n (r ∷ rs) = (r < n) × Below n rs

below_from : (n : ℕ) (rs : List ℕ) → ((i : ℕ) → i < length rs → get_or rs i 0 < n) → Below n rs
below_from n [] h = tt
below_from n (r ∷ rs) h = (h 0 (omega arith), below_from n rs (λ i l. h (suc i) (omega arith)))

module _ (xs : List ℕ) (capital : capitals xs ≡ true) (distinct : different xs ≡ true) where
  mapped_capitals : (rs : List ℕ) → Below (length xs) rs → capitals (map (λ r. get_or xs r 0) rs) ≡ true
  mapped_capitals [] b = refl
  mapped_capitals (r ∷ rs) b = and_from _ _ (capital_at xs r capital b.0) (mapped_capitals rs b.1)

  mapped_listed : (rs : List ℕ) → Below (length xs) rs → all_listed xs (map (λ r. get_or xs r 0) rs) ≡ true
  mapped_listed [] b = refl
  mapped_listed (r ∷ rs) b = and_from _ _ (ap is_some (place_at xs r distinct b.0)) (mapped_listed rs b.1)

  module _ (dims : ℕ) (some : 1 ≤ dims) (most : dims ≤ 4) (p : List ℕ) (point : is_point (row_sizes dims (length xs)) p ≡ true) where
    long : length p ≡ 8
    long = point_eight_lem (row_sizes dims (length xs)) p point

    taken : length (take dims p) ≡ dims
    taken = length-take dims p ∙ omega (arith, long)

    below : (i : ℕ) → i < 8 → get_or p i 0 < row_size dims (length xs) i
    below i l = subst (λ m. get_or p i 0 < m) (eight_at (row_size dims (length xs)) i l) (point_within (row_sizes dims (length xs)) p point i l)

    used : (i : ℕ) → i < dims → get_or p i 0 < length xs
    used i l = subst (λ m. get_or p i 0 < m) (ap (λ b. cond b (length xs) 1) (lt-ltb i dims l)) (below i (omega arith))

    unused : (i : ℕ) → dims ≤ i → i < 8 → get_or p i 0 ≡ 0
    unused i l h = let one : get_or p i 0 < 1 = subst (λ m. get_or p i 0 < m) (ap (λ b. cond b (length xs) 1) (le-ltb i dims l)) (below i h) in omega arith

    low : Below (length xs) (take dims p)
    low = below_from (length xs) (take dims p) (λ i l. let k : i < dims = omega (arith, taken) in rw (get_or-take dims p i 0 k) (used i k))

    text_length : length (letters_at xs dims p) ≡ dims
    text_length = length-map (take dims p) (λ r. get_or xs r 0) ∙ taken

    pub text_capitals : capitals (letters_at xs dims p) ≡ true
    text_capitals = mapped_capitals (take dims p) low

    pub text_some : 0 < length (letters_at xs dims p)
    text_some = omega (arith, text_length)

    rank_back : (i : ℕ) → i < 8 → (i < dims) ⊎ (dims ≤ i) → get_or p i 0 ≡ rank_at xs (slice_get (letters_at xs dims p) i)
    rank_back i h (inl l) =
        let at : i < length (take dims p) = omega (arith, taken) in
        let letter : get_or (letters_at xs dims p) i 0 ≡ get_or xs (get_or p i 0) 0 = get_or-map (λ r. get_or xs r 0) (take dims p) i 0 0 at ∙ ap (λ r. get_or xs r 0) (get_or-take dims p i 0 l) in
        let found : slice_get (letters_at xs dims p) i ≡ Some (get_or xs (get_or p i 0) 0) = slice_get-get_or (letters_at xs dims p) i 0 (omega (arith, text_length)) ∙ ap Some letter in
        sym (ap (rank_at xs) found ∙ ap (λ o. unwrap_or o 0) (place_at xs (get_or p i 0) distinct (used i l)))
    rank_back i h (inr l) = unused i l h ∙ sym (ap (rank_at xs) (slice_get_past (letters_at xs dims p) i (omega (arith, text_length))))

    point_same : p ≡ point_of xs (letters_at xs dims p)
    point_same = eight_from (λ i. rank_at xs (slice_get (letters_at xs dims p) i)) p long (λ k h. rank_back k h (cases_lt k dims))

    ranks_back : ranks_of xs (letters_at xs dims p) ≡ Some p
    ranks_back = ap (λ b. cond b (Some (point_of xs (letters_at xs dims p))) None) (mapped_listed (take dims p) low) ∙ ap Some (sym point_same)

    pub point_back : (ws : List (List ℕ)) (rest : List ℕ) (line : ℕ) → point_due xs dims (at_words (letters_at xs dims p ∷ ws) rest line) ≡ Ok (p, at_words ws rest line)
    unfolding point_due
    point_back ws rest line =
        let same : eqb (length (letters_at xs dims p)) dims ≡ true = eq-eqb _ _ text_length in
        rw (letters_written (letters_at xs dims p) ws rest line text_some text_capitals, same, ranks_back)
