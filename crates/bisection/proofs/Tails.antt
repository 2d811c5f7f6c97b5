-- What holds of the middles of all levels from one level on, and of rank 0 in the coordinates past the last.
use Rattle.std.proofs.Common.{◌≡◌, ℕ, suc, ◌+◌, ◌≤◌, List, [], ◌∷◌, length, subst, ⊎_elim, arith}
use Rattle.std.proofs.lemmas.Bool.{cases_lt}
use Rattle.bisection.specs.declared.level.Level.{Level}

-- P of each coordinate from n on, and the middle there
abbrev pub Tail : (ℕ → ℕ → Type 0) → ℕ → List Level → Type 0
Tail P n [] = (j : ℕ) → n ≤ j → P j 0
Tail P n (l ∷ ls) = P n l.middle × Tail P (suc n) ls

pub tail_map : (P Q : ℕ → ℕ → Type 0) (n : ℕ) (ls : List Level) → ((j m : ℕ) → n ≤ j → P j m → Q j m) → Tail P n ls → Tail Q n ls
tail_map P Q n [] f t = λ j h. f j 0 h (t j h)
tail_map P Q n (l ∷ ls) f t =
    (f n l.middle (omega arith) t.0, tail_map P Q (suc n) ls (λ j m h p. f j m (omega arith) p) t.1)

pub tail_both : (P Q : ℕ → ℕ → Type 0) (n : ℕ) (ls : List Level) → Tail P n ls → Tail Q n ls → Tail (λ j m. P j m × Q j m) n ls
tail_both P Q n [] s t = λ j h. (s j h, t j h)
tail_both P Q n (l ∷ ls) s t = ((s.0, t.0), tail_both P Q (suc n) ls s.1 t.1)

-- what does not speak of the middles holds of every coordinate from n on
pub tail_all : (P : ℕ → Type 0) (n : ℕ) (ls : List Level) → Tail (λ j m. P j) n ls → (j : ℕ) → n ≤ j → P j
tail_all P n [] t j h = t j h
tail_all P n (l ∷ ls) t j h =
    ⊎_elim (λ lt. tail_all P (suc n) ls t.1 j lt) (λ le. let e : n ≡ j = omega arith in subst P e t.0) (cases_lt n j)

-- two facts of the middles that together say something of each coordinate
pub tail_join : (P Q : ℕ → ℕ → Type 0) (R : ℕ → Type 0) (n : ℕ) (ls : List Level) → ((j m : ℕ) → P j m → Q j m → R j) → Tail P n ls → Tail Q n ls → (j : ℕ) → n ≤ j → R j
tail_join P Q R n ls f s t =
    tail_all R n ls
    (tail_map (λ j m. P j m × Q j m) (λ j m. R j) n ls (λ j m h p. f j m p.0 p.1) (tail_both P Q n ls s t))

-- past the last level there is rank 0
pub tail_end : (P : ℕ → ℕ → Type 0) (n : ℕ) (ls : List Level) → Tail P n ls → (j : ℕ) → n + length ls ≤ j → P j 0
tail_end P n [] t j h = t j (omega arith)
tail_end P n (l ∷ ls) t j h = tail_end P (suc n) ls t.1 j (omega arith)
