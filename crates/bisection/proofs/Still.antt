-- How many questions may still come: each move takes at least one off.
use Rattle.std.proofs.Common.{◌≡◌, ℕ, zero, suc, ◌+◌, ◌-◌, ◌*◌, ◌/◌, ◌<◌, ◌≤◌, Bool, true, false, eqb, List, [], ◌∷◌, refl, ◌∙◌, suc-mul, mul-le-mul, arith}
use Rattle.std.proofs.lemmas.Bool.{eqb-true, eqb-false, ne_eqb}
use Rattle.bisection.specs.Bits.{halvings, binary_digits, product}
use Rattle.bisection.specs.Bounds.{width}
use Rattle.bisection.specs.Levels.{level_at, opened}
use Rattle.bisection.specs.declared.bounds.Bounds.{Bounds}
use Rattle.bisection.specs.declared.level.Level.{Level}
use Rattle.bisection.proofs.Moves.{Inside, Narrowed}

-- a number above 0 has one digit more than its half
pub halvings_more : (most w : ℕ) → 0 < w → halvings (suc most) w ≡ suc (halvings most (w / 2))
halvings_more most w h = rw (ne_eqb w 0 (λ e. omega arith), halvings)

pub halvings_none : (most : ℕ) → halvings most 0 ≡ 0
halvings_none zero = refl
halvings_none (suc most) = refl

halvings_mono : (m n v w : ℕ) → m ≤ n → v ≤ w → halvings m v ≤ halvings n w
halvings_mono zero n v w p q = omega arith
halvings_mono (suc m) zero v w p q = absurd (omega arith)
halvings_mono (suc m) (suc n) v w p q = go (eqb v 0) refl (halvings_mono m n (v / 2) (w / 2) (omega arith) (omega arith))
  where
    go : (t : Bool) → eqb v 0 ≡ t → halvings m (v / 2) ≤ halvings n (w / 2) → halvings (suc m) v ≤ halvings (suc n) w
    go true t ih = rw (eqb-true v 0 t, halvings_none (suc m)) (omega arith)
    go false t ih =
        let z : (v ≡ 0 → ⊥) = eqb-false v 0 t in
        let a : 0 < v = omega arith in
        let b : 0 < w = omega arith in
        rw (halvings_more m v a, halvings_more n w b) (omega arith)

pub digits_mono : (v w : ℕ) → v ≤ w → binary_digits v ≤ binary_digits w
digits_mono v w h = halvings_mono v w v w h h

pub digits_some : (w : ℕ) → 0 < w → 0 < binary_digits w
digits_some zero h = absurd (omega arith)
digits_some (suc w) h = rw (halvings_more w (suc w) h) (omega arith)

-- at most half as wide: at least a digit less
pub digits_half : (v w : ℕ) → 0 < w → v ≤ w / 2 → binary_digits v < binary_digits w
digits_half v zero h q = absurd (omega arith)
digits_half v (suc w) h q =
    rw (halvings_more w (suc w) h) (omega (arith, halvings_mono v w v (suc w / 2) (omega arith) q))

-- narrower bounds have no larger product
pub product_mono : (n : ℕ) (c b : Bounds) → Inside c b → product n c ≤ product n b
product_mono zero c b i = omega arith
product_mono (suc k) c b i =
    mul-le-mul (digits_mono (width c k) (width b k) (omega (arith, i.0 k, i.1 k))) (product_mono k c b i)

-- the questions that may come after the present one
abbrev pub later : ℕ → List Level → ℕ
later n [] = 0
later n (l ∷ ls) = (binary_digits (width l.bounds n) - 1) * product n l.bounds + later (suc n) ls

-- a fresh opening below n: the present question and those after it
pub opened_later : (b : Bounds) (n : ℕ) (ls : List Level) → suc (later 0 (opened b n ls)) ≡ product n b + later n ls
opened_later b zero ls = omega arith
opened_later b (suc k) ls =
    opened_later b k (level_at k b ∷ ls)
    ∙ together (binary_digits (width b k)) (product k b) (later (suc k) ls) (digits_some (width b k) (omega arith))
  where
    together : (d p r : ℕ) → 0 < d → p + ((d - 1) * p + r) ≡ d * p + r
    together zero p r h = absurd (omega arith)
    together (suc d) p r h =
        let e : suc d - 1 ≡ d = omega arith in
        rw (e, suc-mul d p) (omega arith)

-- a move at level k takes at least one off
pub narrowed_later : (k : ℕ) (l : Level) (c : Bounds) (ls : List Level) → Narrowed k l.middle l.bounds c → suc (later 0 (opened c (suc k) ls)) ≤ later k (l ∷ ls)
narrowed_later k l c ls n =
    omega (
      arith,
      opened_later c (suc k) ls,
      mul-le-mul
          (less (binary_digits (width c k)) (binary_digits (width l.bounds k)) (digits_half (width c k) (width l.bounds k) (omega arith) n.half))
          (product_mono k c l.bounds n.inside),
    )
  where
    less : (x y : ℕ) → x < y → x ≤ y - 1
    less x y h = omega arith
