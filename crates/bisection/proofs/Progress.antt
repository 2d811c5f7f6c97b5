-- What a judgement leads to, from good levels.
use Rattle.std.proofs.Common.{◌≡◌, ℕ, zero, suc, ◌+◌, ◌<◌, ◌≤◌, List, [], ◌∷◌, length, Some, None, Option, sym, ◌∙◌, subst, inr, ⊎_elim, arith}
use Rattle.std.proofs.lemmas.Bool.{cases_lt}
use Rattle.points.specs.declared.Entry.{Entry}
use Rattle.points.specs.Points.{rank_of, size_of, AtMost}
use Rattle.bisection.specs.Bounds.{middle, moved, raised, lowered, footing}
use Rattle.bisection.specs.Judge.Decision.{settled, pair, goes}
use Rattle.bisection.specs.Levels.{level_at, opened}
use Rattle.bisection.specs.Sound.{Bottom, Top}
use Rattle.bisection.specs.declared.bounds.Bounds.{Bounds}
use Rattle.bisection.specs.declared.bounds.Side.{Side}
use Rattle.bisection.specs.declared.level.Level.{Level}
use Rattle.bisection.proofs.Future.{Reads, Future, Coming, narrowed_coming}
use Rattle.bisection.proofs.Moves.{Narrowed, Narrowable, moved_all, raised_narrows, lowered_narrows}
use Rattle.bisection.proofs.Ready.{Up, Down, Held, Nests, Ready, Good, opened_good, narrowed_ready}
use Rattle.bisection.proofs.Still.{later, narrowed_later}
use Rattle.bisection.proofs.Tails.{tail_map, tail_join}
use Rattle.bisection.proofs.Ways.{Ways}
use Rattle.bisection.proofs.Ways.Ways.{done, up, over, under, raise, lower}

-- below k the question lies within the bounds of the lowest of these levels
abbrev pub Within : ℕ → List ℕ → List Level → Type 0
Within k q [] = Unit {0}
Within k q (l ∷ ls) =
    (i : ℕ) → i < k → (rank_of l.bounds.floor.at i ≤ rank_of q i) × (rank_of q i ≤ rank_of l.bounds.roof.at i)

-- judging has come to level k, the lowest of these: the levels below agreed
pub record Reached (e : Entry) (k : ℕ) (ls : List Level) : Type 0 where
  pub eight : length e.point ≡ 8
  pub reads : Reads e.point k ls
  pub same : (i : ℕ) → i < k → rank_of e.answer i ≡ rank_of e.point i
  pub within : Within k e.point ls

-- the levels lead on to the levels `next`
pub record Progress (Put : Entry → Type 0) (sizes : List ℕ) (k : ℕ) (ls next : List Level) : Type 0 where
  pub good : Good Put sizes 0 next
  pub coming : (x : List ℕ) → Coming 0 next x → Future k ls x
  pub less : suc (later 0 next) ≤ later k ls
  pub many : length next ≡ k + length ls

-- two entries, the lower first, whose answers stand the other way round in coordinate k
pub record Contradict (Put : Entry → Type 0) (low high : Entry) (k : ℕ) : Type 0 where
  pub put_low : Put low
  pub put_high : Put high
  pub points : AtMost low.point high.point
  pub answers : rank_of high.answer k < rank_of low.answer k

pub opened_many : (b : Bounds) (n : ℕ) (ls : List Level) → length (opened b n ls) ≡ n + length ls
opened_many b zero ls = omega arith
opened_many b (suc k) ls = omega (arith, opened_many b k (level_at k b ∷ ls))

module _ (Put : Entry → Type 0) (sizes : List ℕ) (e : Entry) (put : Put e) where
  -- the question lies within the bounds of level k in coordinate k too
  here : (k : ℕ) (l : Level) (ls : List Level) → Good Put sizes k (l ∷ ls) → Reached e k (l ∷ ls) → (i : ℕ) → i < suc k → (rank_of l.bounds.floor.at i ≤ rank_of e.point i) × (rank_of e.point i ≤ rank_of l.bounds.roof.at i)
  here k l ls g r i h = ⊎_elim (λ lt. r.within i lt) (λ le. at (omega arith)) (cases_lt i k)
    where
      at : k ≡ i → (rank_of l.bounds.floor.at i ≤ rank_of e.point i) × (rank_of e.point i ≤ rank_of l.bounds.roof.at i)
      at s =
          subst (λ j. (rank_of l.bounds.floor.at j ≤ rank_of e.point j) × (rank_of e.point j ≤ rank_of l.bounds.roof.at j)) s
          (omega (arith, g.0, r.reads.0), omega (arith, g.0, r.reads.0, g.1.ordered k))

  reached_up : (k : ℕ) (l : Level) (ls : List Level) → Good Put sizes k (l ∷ ls) → Reached e k (l ∷ ls) → rank_of e.answer k ≡ l.middle → Reached e (suc k) ls
  reached_up k l ls g r s =
      record {
        eight = r.eight;
        reads = r.reads.1;
        same = λ i h. ⊎_elim (λ lt. r.same i lt) (λ le. at i (omega arith)) (cases_lt i k);
        within = nested ls (here k l ls g r) g.1.nests;
      }
    where
      at : (i : ℕ) → k ≡ i → rank_of e.answer i ≡ rank_of e.point i
      at i t = subst (λ j. rank_of e.answer j ≡ rank_of e.point j) t (s ∙ sym r.reads.0)

      nested : (us : List Level) → ((i : ℕ) → i < suc k → (rank_of l.bounds.floor.at i ≤ rank_of e.point i) × (rank_of e.point i ≤ rank_of l.bounds.roof.at i)) → Nests l.bounds us → Within (suc k) e.point us
      nested [] w n = n
      nested (u ∷ us) w n = λ i h. (omega (arith, n.0 i, (w i h).0), omega (arith, n.1 i, (w i h).1))

  narrowable : (k : ℕ) (l : Level) (ls : List Level) → Good Put sizes k (l ∷ ls) → Reached e k (l ∷ ls) → Narrowable k l.bounds e
  narrowable k l ls g r =
      record {
        small = g.1.small;
        point_eight = r.eight;
        floor_eight = g.1.floor_eight;
        roof_eight = g.1.roof_eight;
        ordered = g.1.ordered;
        within = r.within;
      }

  -- this question is the footing of the side that it moved
  held : (R : ℕ → ℕ → Type 0) (End : List ℕ → Type 0) → ((x : ℕ) → R x x) → (k : ℕ) (l : Level) (ls : List Level) (side : Side) → Good Put sizes k (l ∷ ls) → Reached e k (l ∷ ls) → length side.at ≡ 8 → R l.middle (rank_of e.answer k) → Held Put R End (suc k) (moved k e side).at ls (Some e)
  held R End same k l ls side g r eight way = (
    moved_all k e side g.1.small r.eight eight (λ i v. i < suc k → R (rank_of e.point i) v × R v (rank_of e.answer i))
        (λ i h _. (same _, subst (R (rank_of e.point i)) (sym (r.same i h)) (same _)))
        (λ _. (subst (λ v. R v (rank_of e.answer k)) (sym r.reads.0) way, same _)) (λ i h lt. absurd (omega arith)),
    tail_map (λ j m. rank_of e.point j ≡ m) (λ j m. R (rank_of e.point j) m) (suc k) ls
        (λ j m h s. subst (R (rank_of e.point j)) s (same _)) r.reads.1,
    put,
  )

  -- a move at level k
  moved_on : (k : ℕ) (l : Level) (c : Bounds) (ls : List Level) → Good Put sizes k (l ∷ ls) → Narrowed k (middle l.bounds k) l.bounds c → Ready Put sizes (suc k) c ls → Progress Put sizes k (l ∷ ls) (opened c (suc k) ls)
  moved_on k l c ls g n r =
      let m : Narrowed k l.middle l.bounds c = subst (λ v. Narrowed k v l.bounds c) (sym g.0) n in
      record {
        good = opened_good Put sizes (suc k) c ls r g.2;
        coming = λ x h. narrowed_coming k l c ls x m r.tail h;
        less = narrowed_later k l c ls m;
        many = omega (arith, opened_many c (suc k) ls);
      }

  -- a search that goes on makes progress
  pub progress : {k : ℕ} {ls next : List Level} → Ways e k ls (goes next) → Good Put sizes k ls → Reached e k ls → Progress Put sizes k ls next
  progress (up {k = k} {l = l} {ls = ls} s w) g r =
      let p = progress w g.2 (reached_up k l ls g r s) in
      record { good = p.good; coming = λ x h. inr (p.coming x h); less = omega (arith, p.less); many = omega (arith, p.many) }
  progress (raise {k = k} {l = l} {ls = ls} more fits) g r =
      let n = raised_narrows k l.bounds e (narrowable k l ls g r) (omega (arith, g.0)) fits in
      moved_on k l (raised k e l.bounds) ls g n
      (narrowed_ready Put sizes k (middle l.bounds k) l.bounds (raised k e l.bounds) ls g.1 n
      (held Up Bottom (λ x. omega arith) k l ls l.bounds.floor g r g.1.floor_eight (omega arith)) g.1.high)
  progress (lower {k = k} {l = l} {ls = ls} fewer fits) g r =
      let n = lowered_narrows k l.bounds e (narrowable k l ls g r) (omega (arith, g.0)) fits in
      moved_on k l (lowered k e l.bounds) ls g n
      (narrowed_ready Put sizes k (middle l.bounds k) l.bounds (lowered k e l.bounds) ls g.1 n g.1.low
      (held Down (Top sizes) (λ x. omega arith) k l ls l.bounds.roof g r g.1.roof_eight (omega arith)))

  -- where it is settled, every coordinate agrees
  pub agreed : {k : ℕ} {ls : List Level} → Ways e k ls settled → Good Put sizes k ls → Reached e k ls → (i : ℕ) → i < k + length ls → rank_of e.answer i ≡ rank_of e.point i
  agreed done g r i h = r.same i (omega arith)
  agreed (up {k = k} {l = l} {ls = ls} s w) g r i h = agreed w g.2 (reached_up k l ls g r s) i (omega arith)

  -- the footing's point lies on its side of the question
  beside : (R : ℕ → ℕ → Type 0) → ((x y z : ℕ) → R x y → R y z → R x z) → (k : ℕ) (l : Level) (ls : List Level) (side : List ℕ) (End : List ℕ → Type 0) (f : Entry) → Reached e k (l ∷ ls) → ((i : ℕ) → i < suc k → R (rank_of side i) (rank_of e.point i)) → Held Put R End (suc k) side ls (Some f) → (i : ℕ) → R (rank_of f.point i) (rank_of e.point i)
  beside R trans k l ls side End f r near h i =
      ⊎_elim (λ lt. trans _ _ _ (h.0 i lt).0 (near i lt))
      (λ le. tail_join (λ j m. rank_of e.point j ≡ m) (λ j m. R (rank_of f.point j) m) (λ j. R (rank_of f.point j) (rank_of e.point j))
      (suc k) ls (λ j m s t. subst (R (rank_of f.point j)) (sym s) t) r.reads.1 h.1 i le)
      (cases_lt i (suc k))

  -- where it is a pair, the two contradict each other, if the answer lies in the lattice
  pub contradict : ((i : ℕ) → i < 8 → rank_of e.answer i < size_of sizes i) → {k j : ℕ} {ls : List Level} {low high : Entry} → Ways e k ls (pair low high j) → Good Put sizes k ls → Reached e k ls → Contradict Put low high j
  contradict in_lattice (up {k = k} {l = l} {ls = ls} s w) g r = contradict in_lattice w g.2 (reached_up k l ls g r s)
  contradict in_lattice (over {k = k} {l = l} {ls = ls} above past) g r = roofed l.bounds.roof.footing g.1.high
    where
      roofed : (f : Option Entry) → Held Put Down (Top sizes) (suc k) l.bounds.roof.at ls f → Contradict Put e (footing f) k
      roofed None h = absurd (omega (arith, h k g.1.small, in_lattice k g.1.small))
      roofed (Some f) h =
          record {
            put_low = put;
            put_high = h.2;
            points =
                beside Down (λ x y z p q. omega arith) k l ls l.bounds.roof.at (Top sizes) f r
                (λ i lt. (here k l ls g r i lt).1) h;
            answers = omega (arith, (h.0 k (omega arith)).1);
          }
  contradict in_lattice (under {k = k} {l = l} {ls = ls} below past) g r = floored l.bounds.floor.footing g.1.low
    where
      floored : (f : Option Entry) → Held Put Up Bottom (suc k) l.bounds.floor.at ls f → Contradict Put (footing f) e k
      floored None h = absurd (omega (arith, h k))
      floored (Some f) h =
          record {
            put_low = h.2;
            put_high = put;
            points =
                beside Up (λ x y z p q. omega arith) k l ls l.bounds.floor.at Bottom f r
                (λ i lt. (here k l ls g r i lt).0) h;
            answers = omega (arith, (h.0 k (omega arith)).1);
          }

-- a pair names one of the coordinates in use
pub pair_in : {e : Entry} {k j : ℕ} {ls : List Level} {low high : Entry} → Ways e k ls (pair low high j) → j < k + length ls
pair_in (up s w) = omega (arith, pair_in w)
pair_in (over more past) = omega arith
pair_in (under fewer past) = omega arith
