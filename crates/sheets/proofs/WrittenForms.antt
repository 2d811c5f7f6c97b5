-- Written words have the form that they were written in.
use Rattle.std.proofs.Common.{◌≡◌, ℕ, zero, suc, ◌^◌, ◌<◌, ◌≤◌, Bool, true, false, cond, not, ◌&&◌, ◌||◌, eqb, ◌⊎◌, List, [], ◌∷◌, length, get_or, decimal, refl, ap, ◌∙◌, inl, inr, arith}
use Rattle.std.specs.Char.{is_ascii_digit}
use Rattle.std.specs.Str.{all_ascii_digits}
use Rattle.std.proofs.lemmas.Fmt.{decimal_digit, decimal_nonempty, digits_decimal, first_decimal, length-decimal-le, digits_value-decimal}
use Rattle.std.proofs.lemmas.Str.Parse.{IsNumeralModel, numerals_by_fold, tells_all_ascii_digits}
use Rattle.std.proofs.lemmas.Bool.{and_from, and_parts, eq-eqb, le-leb, ne_eqb}
use Rattle.std.proofs.lemmas.Bool.Decides.{nat_tests}
use Rattle.sheets.specs.Classes.{class_of, from}
use Rattle.sheets.specs.Forms.{all_of, form_of, is_mark, is_numeral, letters, mark, mixed, name, number, number_after}
use Rattle.sheets.specs.declared.classes.Class.TheVariants.{Digit, Capital, Small}
use Rattle.sheets.proofs.Spaced.{IsWord, all_in}

own : IsNumeralModel (λ ds. all_ascii_digits ds ≡ true) (number_after 0)
own = numerals_by_fold _ tells_all_ascii_digits number_after (record { empty = λ n. refl; more = λ n c cs h. refl })

digit_class : (c : ℕ) → 48 ≤ c → c ≤ 57 → class_of c ≡ Digit
digit_class c a b =
    let x : eqb c 10 ≡ false = grind (arith, nat_tests) in
    let y : eqb c 32 ≡ false = grind (arith, nat_tests) in
    let z : eqb c 45 ≡ false = grind (arith, nat_tests) in
    let d : from 48 57 c ≡ true = grind (arith, nat_tests) in
    rw (x, y, z, d)

digit_byte : (c : ℕ) → is_ascii_digit c ≡ true → (48 ≤ c) × (c ≤ 57)
digit_byte c t = (grind (arith, nat_tests), grind (arith, nat_tests))

all_digits : (ds : List ℕ) → all_ascii_digits ds ≡ true → all_of Digit ds ≡ true
all_digits [] t = refl
all_digits (c ∷ cs) t =
    let parts = and_parts (is_ascii_digit c) _ t in
    let b = digit_byte c parts.0 in
    rw (digit_class c b.0 b.1) (all_digits cs parts.1)

all_in_lem : (ds : List ℕ) → all_ascii_digits ds ≡ true → all_in ds ≡ true
all_in_lem [] t = refl
all_in_lem (c ∷ cs) t =
    let parts = and_parts (is_ascii_digit c) _ t in
    let b = digit_byte c parts.0 in
    rw (digit_class c b.0 b.1) (all_in_lem cs parts.1)

-- digits are neither a mark nor a name nor letters
plain_digits : (ds : List ℕ) → 0 < length ds → all_ascii_digits ds ≡ true → is_numeral ds ≡ true → form_of ds ≡ number (number_after 0 ds)
plain_digits [] some t n = absurd (omega arith)
plain_digits (c ∷ cs) some t n =
    let b = digit_byte c (and_parts (is_ascii_digit c) _ t).0 in
    let k = digit_class c b.0 b.1 in
    let h : eqb c 104 ≡ false = ne_eqb c 104 (λ e. omega (arith, b.1)) in
    let p : eqb c 112 ≡ false = ne_eqb c 112 (λ e. omega (arith, b.1)) in
    let m : eqb c 45 ≡ false = ne_eqb c 45 (λ e. omega (arith, b.0)) in
    let mark : is_mark (c ∷ cs) ≡ false = by_length (eqb (length (c ∷ cs)) 1) h p m in
    let small : all_of Small (c ∷ cs) ≡ false = rw k in
    let capital : all_of Capital (c ∷ cs) ≡ false = rw k in
    formed (is_mark (c ∷ cs)) (all_of Small (c ∷ cs)) (all_of Capital (c ∷ cs)) (is_numeral (c ∷ cs)) mark small capital n
  where
    by_length : (one : Bool) → eqb c 104 ≡ false → eqb c 112 ≡ false → eqb c 45 ≡ false → (one && (eqb c 104 || (eqb c 112 || eqb c 45))) ≡ false
    by_length true h p m = rw (h, p, m)
    by_length false h p m = refl

    formed : (a b d e : Bool) → a ≡ false → b ≡ false → d ≡ false → e ≡ true → cond a (mark c) (cond b (name (c ∷ cs)) (cond d (letters (c ∷ cs)) (cond e (number (number_after 0 (c ∷ cs))) mixed))) ≡ number (number_after 0 (c ∷ cs))
    formed a b d e p q r t = rw (p, q, r, t)

numeral_if : (n : ℕ) → (n ≡ 0) ⊎ (0 < n) → n < 2 ^ 64 → (eqb (length (decimal n)) 1 || not (eqb (get_or (decimal n) 0 0) 48)) ≡ true
numeral_if n (inl e) h =
    let one : length (decimal n) ≡ 1 = ap length (ap decimal e ∙ decimal_digit 0 (omega arith)) in
    rw (eq-eqb (length (decimal n)) 1 one)
numeral_if n (inr p) h =
    let first = first_decimal n p h in
    let other : eqb (get_or (decimal n) 0 0) 48 ≡ false = ne_eqb _ 48 (λ e. omega (arith, first)) in
    rw other (either (eqb (length (decimal n)) 1))
  where
    either : (b : Bool) → (b || true) ≡ true
    either true = refl
    either false = refl

zero_or : (n : ℕ) → (n ≡ 0) ⊎ (0 < n)
zero_or zero = inl refl
zero_or (suc n) = inr (omega arith)

is_numeral_lem : (n : ℕ) → n < 10 ^ 10 → is_numeral (decimal n) ≡ true
is_numeral_lem n h =
    let wide : n < 2 ^ 64 = omega arith in
    let long = length-decimal-le 10 n (omega arith) h wide in
    and_from _ _ (all_digits (decimal n) (digits_decimal own n wide))
    (and_from _ _ (le-leb 1 (length (decimal n)) (decimal_nonempty n wide)) (and_from _ _ (le-leb (length (decimal n)) 10 long) (numeral_if n (zero_or n) wide)))

-- a number is written as a number
pub decimal_form : (n : ℕ) → n < 10 ^ 10 → form_of (decimal n) ≡ number n
decimal_form n h =
    let wide : n < 2 ^ 64 = omega arith in
    plain_digits (decimal n) (decimal_nonempty n wide) (digits_decimal own n wide) (is_numeral_lem n h) ∙ ap number (digits_value-decimal own n wide)

pub decimal_word : (n : ℕ) → n < 10 ^ 10 → IsWord (decimal n)
decimal_word n h =
    let wide : n < 2 ^ 64 = omega arith in
    record { some = decimal_nonempty n wide; bytes = all_in_lem (decimal n) (digits_decimal own n wide) }
