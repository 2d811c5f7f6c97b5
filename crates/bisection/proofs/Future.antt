-- The questions that may still come after the present one.
use Rattle.std.proofs.Common.{◌≡◌, ℕ, zero, suc, ◌≤◌, ◌⊎◌, List, [], ◌∷◌, inl, inr, arith}
use Rattle.points.specs.Points.{rank_of, AtMost}
use Rattle.bisection.specs.Bounds.{Between}
use Rattle.bisection.specs.Levels.{level_at, opened}
use Rattle.bisection.specs.declared.bounds.Bounds.{Bounds}
use Rattle.bisection.specs.declared.level.Level.{Level}
use Rattle.bisection.proofs.Moves.{Narrowed}
use Rattle.bisection.proofs.Tails.{Tail, tail_join}

-- x has the middles of the levels from n on
abbrev pub Reads : List ℕ → ℕ → List Level → Type 0
Reads x n ls = Tail (λ j m. rank_of x j ≡ m) n ls

-- x lies in the bounds of some level, misses its middle, and has the middles of the levels above it
abbrev pub Future : ℕ → List Level → List ℕ → Type 0
Future n [] x = ⊥
Future n (l ∷ ls) x =
    (Between l.bounds x × (rank_of x n ≡ l.middle → ⊥) × Reads x (suc n) ls) ⊎ Future (suc n) ls x

-- x is the present question, or may come later
abbrev pub Coming : ℕ → List Level → List ℕ → Type 0
Coming n ls x = Reads x n ls ⊎ Future n ls x

-- the present question does not come later
pub now_not_later : (x : List ℕ) (n : ℕ) (ls : List Level) → Reads x n ls → Future n ls x → ⊥
now_not_later x n [] r f = f
now_not_later x n (l ∷ ls) r (inl f) = f.1 r.0
now_not_later x n (l ∷ ls) r (inr f) = now_not_later x (suc n) ls r.1 f

-- the middles of the levels from n on lie in these bounds
abbrev pub Middles : Bounds → ℕ → List Level → Type 0
Middles b n ls = Tail (λ j m. (rank_of b.floor.at j ≤ m) × (m ≤ rank_of b.roof.at j)) n ls

-- a question within bounds b below n, which has the middles above
pub reads_between : (b : Bounds) (x : List ℕ) (ls : List Level) → Middles b 0 ls → Reads x 0 ls → Between b x
reads_between b x ls t r = (
  λ j. tail_join (λ j m. (rank_of b.floor.at j ≤ m) × (m ≤ rank_of b.roof.at j)) (λ j m. rank_of x j ≡ m) (λ j. rank_of b.floor.at j ≤ rank_of x j) 0 ls
      (λ j m p s. omega arith) t r j (omega arith),
  λ j. tail_join (λ j m. (rank_of b.floor.at j ≤ m) × (m ≤ rank_of b.roof.at j)) (λ j m. rank_of x j ≡ m) (λ j. rank_of x j ≤ rank_of b.roof.at j) 0 ls
      (λ j m p s. omega arith) t r j (omega arith),
)

-- after levels are opened below n, what is coming lies in their bounds and has the middles above, or is the future of the levels above
pub opened_coming : (b : Bounds) (n : ℕ) (ls : List Level) (x : List ℕ) → AtMost b.floor.at b.roof.at → Middles b n ls → Coming 0 (opened b n ls) x → (Between b x × Reads x n ls) ⊎ Future n ls x
opened_coming b zero ls x o t (inl r) = inl (reads_between b x ls t r, r)
opened_coming b zero ls x o t (inr f) = inr f
opened_coming b (suc k) ls x o t c = step (opened_coming b k (level_at k b ∷ ls) x o ((omega arith, omega (arith, o k)), t) c)
  where
    step : (Between b x × Reads x k (level_at k b ∷ ls)) ⊎ Future k (level_at k b ∷ ls) x → (Between b x × Reads x (suc k) ls) ⊎ Future (suc k) ls x
    step (inl p) = inl (p.0, p.1.1)
    step (inr (inl f)) = inl (f.0, f.2)
    step (inr (inr f)) = inr f

-- so after a move at level k nothing comes that was not to come before
pub narrowed_coming : (k : ℕ) (l : Level) (c : Bounds) (ls : List Level) (x : List ℕ) → Narrowed k l.middle l.bounds c → Middles c (suc k) ls → Coming 0 (opened c (suc k) ls) x → Future k (l ∷ ls) x
narrowed_coming k l c ls x n t h = step (opened_coming c (suc k) ls x n.ordered t h)
  where
    step : (Between c x × Reads x (suc k) ls) ⊎ Future (suc k) ls x → Future k (l ∷ ls) x
    step (inl p) =
        inl
        ((λ i. omega (arith, n.inside.0 i, p.0.0 i), λ i. omega (arith, n.inside.1 i, p.0.1 i)), n.misses x p.0, p.1)
    step (inr f) = inr f
