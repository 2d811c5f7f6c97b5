-- The question of the levels: it has their middles.
use Rattle.std.proofs.Common.{◌≡◌, ℕ, zero, suc, ◌+◌, ◌-◌, ◌<◌, ◌≤◌, List, [], ◌∷◌, ◌++◌, map, length, get_or, take, drop, set, replicate, sym, ap, add-one, refl, ◌∙◌, subst, append_assoc, arith, length-append}
use lib.ListN.{length-replicate, length-map}
use Rattle.std.proofs.lemmas.List.{drop-replicate, get_or_at, get_or-append_right, length_push, length-take-le, take_more, map-append}
use Rattle.points.specs.Points.{rank_of}
use Rattle.bisection.specs.Levels.{question}
use Rattle.bisection.specs.declared.level.Level.{Level}
use Rattle.bisection.proofs.Future.{Reads}
use Rattle.bisection.proofs.Written.{written}

abbrev pub middles : List Level → List ℕ
middles ls = map (λ (l : Level). l.middle) ls

zeros : (n i : ℕ) → rank_of (replicate n 0) i ≡ 0
zeros zero i = refl
zeros (suc n) zero = refl
zeros (suc n) (suc i) = zeros n i

-- some ranks, the middles of these levels, and then zeros
reads_from : (front : List ℕ) (n r : ℕ) (ls : List Level) → length front ≡ n → Reads (front ++ (middles ls ++ replicate r 0)) n ls
reads_from front n r [] e = λ j h. get_or-append_right front (replicate r 0) n j 0 e h ∙ zeros r (j - n)
reads_from front n r (l ∷ ls) e = (
  get_or_at front l.middle (middles ls ++ replicate r 0) 0 n e,
  subst (λ x. Reads x (suc n) ls) (append_assoc front (l.middle ∷ []) (middles ls ++ replicate r 0))
      (reads_from (front ++ l.middle ∷ []) (suc n) r ls (omega (arith, length_push front l.middle))),
)

pub question_reads : (ls : List Level) → Reads (question ls) 0 ls
question_reads ls = reads_from [] 0 (8 - length ls) ls refl

pub question_eight : (ls : List Level) → length ls ≤ 8 → length (question ls) ≡ 8
question_eight ls h = simp (length-append, length-map, length-replicate) (omega arith)

question_of : (ls : List Level) (n : ℕ) → length ls ≡ n → question ls ≡ middles ls ++ drop n (replicate 8 0)
question_of ls n e = rw (e, drop-replicate {X = ℕ} n 8 0)

-- one level more, whose middle is written after those of the levels below
pub question_more : (ls : List Level) (k : ℕ) (l : Level) → k < length ls → length ls ≤ 8 → set (question (take k ls)) k (get_or ls k l).middle ≡ question (take (k + 1) ls)
question_more ls k l h m =
    let front = middles (take k ls) in
    let x = get_or ls k l in
    let zeros : List ℕ = drop (suc k) (replicate 8 0) in
    let here : length (take k ls) ≡ k = length-take-le k ls (omega arith) in
    ap (λ q. set q k x.middle) (question_of (take k ls) k here)
    ∙ written front (replicate 8 0) k x.middle (length-map (take k ls) (λ (l : Level). l.middle) ∙ here) (omega arith)
    ∙ sym (append_assoc front (x.middle ∷ []) zeros)
    ∙ ap (λ ms. ms ++ zeros) (sym (ap middles (take_more ls k l h) ∙ map-append (λ (l : Level). l.middle) (take k ls) (x ∷ [])))
    ∙ sym (question_of (take (k + 1) ls) (suc k) (length-take-le (k + 1) ls (omega arith) ∙ add-one k))
