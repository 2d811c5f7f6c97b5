-- How large binary digits and their product can be.
use Rattle.std.proofs.Common.{◌≡◌, ℕ, zero, suc, ◌+◌, ◌-◌, ◌*◌, ◌/◌, ◌^◌, ◌<◌, ◌≤◌, Bool, true, false, eqb, sym, refl, ap, ◌∙◌, mul_comm, mul-le-mul, pow-suc, add-one, arith}
use native.Mathlib.Nat.{pow-le-pow_right}
use Rattle.std.proofs.lemmas.Nat.{leading_length, pow_pos}
use Rattle.std.specs.Int.Count.{count_leading_zeros}
use Rattle.std.proofs.lemmas.Bool.{eqb-true, eqb-false}
use Rattle.bisection.specs.Bits.{halvings, binary_digits, product}
use Rattle.bisection.specs.Bounds.{width}
use Rattle.bisection.specs.declared.bounds.Bounds.{Bounds}
use Rattle.bisection.proofs.Still.{halvings_more, halvings_none}

within : (n v m : ℕ) → v < 2 ^ m → halvings n v ≤ m
within zero v m h = omega arith
within (suc n) v zero h =
    let none : v ≡ 0 = omega arith in
    rw (none, halvings_none (suc n)) (omega arith)
within (suc n) v (suc m) h = go (eqb v 0) refl (within n (v / 2) m (omega (arith, pow-suc 2 m)))
  where
    go : (t : Bool) → eqb v 0 ≡ t → halvings n (v / 2) ≤ m → halvings (suc n) v ≤ suc m
    go true t ih = rw (eqb-true v 0 t, halvings_none (suc n)) (omega arith)
    go false t ih =
        let z : (v ≡ 0 → ⊥) = eqb-false v 0 t in
        let a : 0 < v = omega arith in
        rw (halvings_more n v a) (omega arith)

-- a number below a power of two has at most that many digits
pub digits_below : (m w : ℕ) → w < 2 ^ m → binary_digits w ≤ m
digits_below m w h = within w w m h

above : (n v m : ℕ) → v ≤ n → 2 ^ m ≤ 2 * v + 1 → m ≤ halvings n v
above n v zero h p = omega arith
above zero v (suc m) h p = absurd (omega (arith, pow-suc 2 m, pow_pos m))
above (suc n) v (suc m) h p =
    let some : 0 < v = omega (arith, pow-suc 2 m, pow_pos m) in
    rw (halvings_more n v some) (omega (arith, above n (v / 2) m (omega arith) (omega (arith, pow-suc 2 m))))

-- so the zeros that lead it say how many it has
pub digits_after : (w : ℕ) → w < 2 ^ 64 → 64 - count_leading_zeros 64 w ≡ binary_digits w
digits_after w h =
    let l = leading_length 64 w h in
    omega (arith, l.1, digits_below l.0 w l.2, above w w l.0 (omega arith) l.3)

-- one coordinate more, of at most 64 digits
pub product_more : (most x k : ℕ) (b : Bounds) → most ≡ product k b → x ≡ binary_digits (width b k) → most * x ≡ product (k + 1) b
product_more most x k b e d = mul_comm most x ∙ ap (λ n. n * most) d ∙ ap (λ n. binary_digits (width b k) * n) e ∙ ap (λ n. product n b) (sym (add-one k))

pub power_more : (most x k : ℕ) → most ≤ 64 ^ k → x ≤ 64 → most * x ≤ 64 ^ (k + 1)
power_more most x k m d = rw (add-one k, pow-suc 64 k) (mul-le-mul m d)

-- the product over eight coordinates of them fits
pub power_fits : (n k : ℕ) → k < 8 → n ≤ 64 ^ (k + 1) → n < 2 ^ 64
power_fits n k h m =
    let le : k + 1 ≤ 8 = omega arith in
    let some : 0 < 64 = omega arith in
    let top : 64 ^ (k + 1) ≤ 64 ^ 8 = pow-le-pow_right some le in
    omega arith
