-- What holds of the levels of a search from a sound box, at every moment of it.
use Rattle.std.proofs.Common.{◌≡◌, ℕ, zero, suc, ◌+◌, ◌<◌, ◌≤◌, List, [], ◌∷◌, length, Some, None, Option, refl, arith}
use Rattle.points.specs.declared.Entry.{Entry}
use Rattle.points.specs.Points.{rank_of, AtMost}
use Rattle.bisection.specs.Bounds.{middle}
use Rattle.bisection.specs.Levels.{level_at, opened}
use Rattle.bisection.specs.Sound.{Bottom, Top}
use Rattle.bisection.specs.declared.bounds.Bounds.{Bounds}
use Rattle.bisection.specs.declared.bounds.Side.{Side}
use Rattle.bisection.specs.declared.level.Level.{Level}
use Rattle.bisection.proofs.Moves.{Inside, Narrowed}
use Rattle.bisection.proofs.Tails.{Tail, tail_map}

-- the orders of a floor's footing and of a roof's
abbrev pub Up : ℕ → ℕ → Type 0
Up a b = a ≤ b

abbrev pub Down : ℕ → ℕ → Type 0
Down a b = b ≤ a

-- A side of the bounds over the levels ls, of which the lowest is level n. Its footing's point and answer lie on its two sides below n;
-- from n on the point lies on the near side of the middles. `Put` says that the footing was put.
abbrev pub Held : (Entry → Type 0) → (ℕ → ℕ → Type 0) → (List ℕ → Type 0) → ℕ → List ℕ → List Level → Option Entry → Type 0
Held Put R End n side ls None = End side
Held Put R End n side ls (Some e) =
    ((i : ℕ) → i < n → R (rank_of e.point i) (rank_of side i) × R (rank_of side i) (rank_of e.answer i))
    × Tail (λ j m. R (rank_of e.point j) m) n ls
    × Put e

-- the same of a side with the footing that it has
abbrev pub Stands : (Entry → Type 0) → (ℕ → ℕ → Type 0) → (List ℕ → Type 0) → ℕ → Side → List Level → Type 0
Stands Put R End n side ls = Held Put R End n side.at ls side.footing

held_down : (Put : Entry → Type 0) (R : ℕ → ℕ → Type 0) (End : List ℕ → Type 0) (trans : (x y z : ℕ) → R x y → R y z → R x z) (k : ℕ) (side : List ℕ) (l : Level) (ls : List Level) (f : Option Entry) → R (rank_of side k) l.middle → Held Put R End (suc k) side ls f → Held Put R End k side (l ∷ ls) f
held_down Put R End trans k side l ls None r h = h
held_down Put R End trans k side l ls (Some e) r h =
    (λ i lt. h.0 i (omega arith), (trans _ _ _ (h.0 k (omega arith)).0 r, h.1), h.2)

-- the bounds lie within those of the level above, if there is one
abbrev pub Nests : Bounds → List Level → Type 0
Nests b [] = Unit {0}
Nests b (l ∷ ls) = Inside b l.bounds

-- bounds within which the levels below n may be opened, under the levels ls
pub record Ready (Put : Entry → Type 0) (sizes : List ℕ) (n : ℕ) (b : Bounds) (ls : List Level) : Type 0 where
  pub small : n ≤ 8
  pub floor_eight : length b.floor.at ≡ 8
  pub roof_eight : length b.roof.at ≡ 8
  pub ordered : AtMost b.floor.at b.roof.at
  pub tail : Tail (λ j m. (rank_of b.floor.at j ≤ m) × (m ≤ rank_of b.roof.at j)) n ls
  pub nests : Nests b ls
  pub low : Stands Put Up Bottom n b.floor ls
  pub high : Stands Put Down (Top sizes) n b.roof ls

-- each level from n on has its middle, and bounds within which those below it could be opened
abbrev pub Good : (Entry → Type 0) → List ℕ → ℕ → List Level → Type 0
Good Put sizes n [] = n ≤ 8
Good Put sizes n (l ∷ ls) =
    (l.middle ≡ middle l.bounds n) × Ready Put sizes (suc n) l.bounds ls × Good Put sizes (suc n) ls

module _ (Put : Entry → Type 0) (sizes : List ℕ) where
  ready_down : (k : ℕ) (b : Bounds) (ls : List Level) → Ready Put sizes (suc k) b ls → Ready Put sizes k b (level_at k b ∷ ls)
  ready_down k b ls r =
      record {
        small = omega arith;
        floor_eight = r.floor_eight;
        roof_eight = r.roof_eight;
        ordered = r.ordered;
        tail = ((omega arith, omega (arith, r.ordered k)), r.tail);
        nests = (λ i. omega arith, λ i. omega arith);
        low =
            held_down Put Up Bottom (λ x y z p q. omega arith) k b.floor.at (level_at k b) ls b.floor.footing (omega arith)
            r.low;
        high =
            held_down Put Down (Top sizes) (λ x y z p q. omega arith) k b.roof.at (level_at k b) ls b.roof.footing
            (omega (arith, r.ordered k)) r.high;
      }

  -- opening keeps the levels good
  pub opened_good : (n : ℕ) (b : Bounds) (ls : List Level) → Ready Put sizes n b ls → Good Put sizes n ls → Good Put sizes 0 (opened b n ls)
  opened_good zero b ls r g = g
  opened_good (suc k) b ls r g = opened_good k b (level_at k b ∷ ls) (ready_down k b ls r) (refl, r, g)

  -- narrowed bounds are ready if their footings hold
  pub narrowed_ready : (k m : ℕ) (b c : Bounds) (ls : List Level) → Ready Put sizes (suc k) b ls → Narrowed k m b c → Stands Put Up Bottom (suc k) c.floor ls → Stands Put Down (Top sizes) (suc k) c.roof ls → Ready Put sizes (suc k) c ls
  narrowed_ready k m b c ls r n low high =
      record {
        small = r.small;
        floor_eight = n.floor_eight;
        roof_eight = n.roof_eight;
        ordered = n.ordered;
        tail =
            tail_map (λ j m. (rank_of b.floor.at j ≤ m) × (m ≤ rank_of b.roof.at j)) (λ j m. (rank_of c.floor.at j ≤ m) × (m ≤ rank_of c.roof.at j))
            (suc k) ls (λ j m h p. (omega (arith, (n.kept j h).0, p.0), omega (arith, (n.kept j h).1, p.1))) r.tail;
        nests = nested ls r.nests;
        low = low;
        high = high;
      }
    where
      nested : (ls : List Level) → Nests b ls → Nests c ls
      nested [] u = u
      nested (l ∷ ls) u =
          (λ i. omega (arith, u.0 i, n.inside.0 i), λ i. omega (arith, u.1 i, n.inside.1 i))

  -- there are no more than eight levels
  pub good_small : (n : ℕ) (ls : List Level) → Good Put sizes n ls → n + length ls ≤ 8
  good_small n [] g = omega arith
  good_small n (l ∷ ls) g = omega (arith, good_small (suc n) ls g.2)
