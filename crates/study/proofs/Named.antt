-- The point that values name, one value after the other.
use Rattle.std.proofs.Common.{◌≡◌, ℕ, suc, ◌+◌, ◌-◌, ◌<◌, ◌≤◌, List, [], ◌∷◌, ◌++◌, length, get_or, take, drop, set, replicate, Some, None, Ok, Err, Option, Result, sym, refl, ap, ◌∙◌, append_assoc, add-one, arith}
use Rattle.std.proofs.lemmas.List.{drop_more, drop-set-lt, length-take-le, take-append-drop}
use Rattle.points.specs.Points.{size_of}
use Rattle.study.specs.Values.{before, point_of, ranked, ranks_from, used}

-- ranks that were found go before those still to be found
abbrev pub after : List ℕ → Result (List ℕ) ℕ → Result (List ℕ) ℕ
after rs (Ok qs) = Ok (rs ++ qs)
after rs (Err i) = Err i

after_before : (rs : List ℕ) (r : ℕ) (rest : Result (List ℕ) ℕ) → after rs (before r rest) ≡ after (rs ++ r ∷ []) rest
after_before rs r (Ok qs) = ap Ok (sym (append_assoc rs (r ∷ []) qs))
after_before rs r (Err i) = refl

module _ {V : Type 0} (rank : V → Option ℕ) (sizes : List ℕ) (values : List V) (i : ℕ) (v : V) (h : i < length values) (is : v ≡ get_or values i v) where
  read : drop i values ≡ v ∷ drop (i + 1) values
  read = drop_more values i v h ∙ ap (λ x. x ∷ drop (i + 1) values) (sym is)

  -- value i has no rank that its coordinate uses
  pub rank_none : (rs : List ℕ) → None ≡ used (size_of sizes i) (rank v) → after rs (ranks_from rank sizes i (drop i values)) ≡ Err i
  rank_none rs e =
      ap (λ vs. after rs (ranks_from rank sizes i vs)) read
      ∙ ap (λ o. after rs (ranked i o (ranks_from rank sizes (suc i) (drop (i + 1) values)))) (sym e)

  -- it has
  pub rank_some : (rs : List ℕ) (r : ℕ) → Some r ≡ used (size_of sizes i) (rank v) → after rs (ranks_from rank sizes i (drop i values)) ≡ after (rs ++ r ∷ []) (ranks_from rank sizes (i + 1) (drop (i + 1) values))
  rank_some rs r e =
      ap (λ vs. after rs (ranks_from rank sizes i vs)) read
      ∙ ap (λ o. after rs (ranked i o (ranks_from rank sizes (suc i) (drop (i + 1) values)))) (sym e)
      ∙ after_before rs r (ranks_from rank sizes (suc i) (drop (i + 1) values))
      ∙ ap (λ n. after (rs ++ r ∷ []) (ranks_from rank sizes n (drop (i + 1) values))) (sym (add-one i))

-- one more rank stands in the point, and the rest are still 0
pub point_more : (point : List ℕ) (i r : ℕ) → i < 8 → length point ≡ 8 → drop i point ≡ replicate (8 - i) 0 → drop (i + 1) (set point i r) ≡ replicate (8 - (i + 1)) 0
point_more point i r h n e =
    drop-set-lt (i + 1) point i r (omega arith) ∙ tail
  where
    tail : drop (i + 1) point ≡ replicate (8 - (i + 1)) 0
    tail =
        let s : 8 - i ≡ suc (8 - (i + 1)) = omega arith in
        let whole : get_or point i 0 ∷ drop (i + 1) point ≡ 0 ∷ replicate (8 - (i + 1)) 0 = sym (drop_more point i 0 (omega arith)) ∙ e ∙ ap (λ k. replicate k 0) s in
        cc

-- all ranks stand in it
pub point_all : (point : List ℕ) (i n : ℕ) → i ≡ n → n ≤ 8 → length point ≡ 8 → drop i point ≡ replicate (8 - i) 0 → point_of (take i point) ≡ point
point_all point i n s h eight e =
    let taken : length (take i point) ≡ i = length-take-le i point (omega arith) in
    ap (λ k. take i point ++ replicate (8 - k) 0) taken ∙ ap (λ xs. take i point ++ xs) (sym e) ∙ take-append-drop i point
