-- A memo keeps the laws of a map, its meaning, and monotone maps monotone.
use Rattle.std.specs.Prelude.{◌≡◌, ℕ, ◌≤◌, Bool, true, false, cond, List, [], ◌∷◌, ◌++◌, length, Some, None, Ok, Err, Option, Result, nat_lt, refl}
use Rattle.std.proofs.Common.{sym, ap, subst, ◌∙◌}
use native.Mathlib.Omega.{arith}
use Rattle.std.proofs.lemmas.Bool.{both_ways, cond-true}
use Rattle.points.specs.Points.{Meaning, Monotone, at_points, is_point}
use Rattle.points.specs.declared.Entry.{Entry}
use Rattle.points.specs.declared.Fault.{Fault}
use Rattle.points.proofs.Guarded.{answered, faulted, no_point}
use Rattle.maps.specs.Layers.{deeper, passed}
use Rattle.maps.specs.Recall.{Asked, Moved, asks, kept, memo_rules, recall_or, recalled, stored}
use Rattle.maps.specs.Rules.{Rules, RulesLaws, SameRules}
use Rattle.maps.specs.declared.memo.store.Memo.{Memo}
use Rattle.maps.specs.MemoRecall.{recalled_point, told_same}

-- what is passed on as an answer was one below
passed_answer : (b : Result (List ℕ) Fault) (y : List ℕ) → passed b ≡ Ok y → b ≡ Ok y
passed_answer (Ok x) y e = e
passed_answer (Err f) y e = let z : ◌≡◌ {A = ℕ} 0 1 = cc in absurd (omega arith)

told_point : (sizes : List ℕ) (o : Option (List ℕ)) (b : Result (List ℕ) Fault) (y : List ℕ) → (o ≡ Some y → is_point sizes y ≡ true) → (b ≡ Ok y → is_point sizes y ≡ true) → recall_or o b ≡ Ok y → is_point sizes y ≡ true
told_point sizes None b y known below e = below (passed_answer b y e)
told_point sizes (Some x) b y known below e = known (let s : x ≡ y = cc in ap Some s)

-- the range of a fault's numbers
abbrev pub Told : Fault → Type 0
Told f = (1 ≤ f.cause) × (f.cause ≤ 255) × (f.depth ≤ 255)

told_fault : (o : Option (List ℕ)) (b : Result (List ℕ) Fault) (f : Fault) → ((g : Fault) → b ≡ Err g → Told g) → recall_or o b ≡ Err f → Told f
told_fault None (Ok y) f below e = let z : ◌≡◌ {A = ℕ} 0 1 = cc in absurd (omega arith)
told_fault None (Err g) f below e =
    let s : deeper g ≡ f = cc in
    let t = below g refl in
    rw (← s) (t.0, t.1, omega arith)
told_fault (Some y) b f below e = let z : ◌≡◌ {A = ℕ} 0 1 = cc in absurd (omega arith)

-- a memo with nothing stored tells what the map below tells, so it is monotone where that is
fresh_tells : (sizes : List ℕ) (F : Meaning) (q y : List ℕ) → at_points sizes (λ p. passed (F p)) q ≡ Ok y → F q ≡ Ok y
fresh_tells sizes F q y e = passed_answer (F q) y (answered sizes (λ p. passed (F p)) q y e).1

pub fresh_monotone : (sizes : List ℕ) (F : Meaning) → Monotone F → Monotone (at_points sizes (λ p. passed (F p)))
fresh_monotone sizes F mono p q y z h ey ez = mono p q y z h (fresh_tells sizes F p y ey) (fresh_tells sizes F q z ez)

pub empty_monotone : {M : Type 0} (r : Rules M) (m : Memo M) → stored m ≡ [] → Monotone (r.meaning m.map) → Monotone ((memo_rules r).meaning m)
empty_monotone r m empty mono =
    subst (λ es. Monotone (at_points (r.sizes m.map) (λ q. recall_or (recalled (r.sizes m.map) es q) (r.meaning m.map q)))) (sym empty)
    (fresh_monotone (r.sizes m.map) (r.meaning m.map) mono)

module _ {M : Type 0} (r : Rules M) (laws : RulesLaws r) where
  tells : Memo M → List ℕ → Result (List ℕ) Fault
  tells m q = recall_or (recalled (r.sizes m.map) (stored m) q) (r.meaning m.map q)

  pub memo_laws : RulesLaws (memo_rules r)
  unfolding tells
  memo_laws = record {
    counted = λ m. laws.counted m.map;
    eight = λ m. laws.eight m.map;
    some = λ m. laws.some m.map;
    unused = λ m. laws.unused m.map;
    answers = λ m q y e. told_point (r.sizes m.map) (recalled (r.sizes m.map) (stored m) q) (r.meaning m.map q) y
        (recalled_point (r.sizes m.map) (stored m) q y) (laws.answers m.map q y) (answered (r.sizes m.map) (tells m) q y e).1;
    faults = λ m q f e. faulted (r.sizes m.map) (tells m) q Told f (omega arith, omega arith, omega arith)
        (λ g. told_fault (recalled (r.sizes m.map) (stored m) q) (r.meaning m.map q) g (laws.faults m.map q)) e;
    outsides = λ m q t. no_point (r.sizes m.map) (tells m) q t;
  }

  -- keeping what the map below gave changes nothing that is told
  keep_if : (sizes : List ℕ) (es : List Entry) (q y : List ℕ) (F : List ℕ → Result (List ℕ) Fault) (b : Bool) → F q ≡ Ok y → (p : List ℕ) → recall_or (recalled sizes (cond b (es ++ record { point = q; answer = y } ∷ []) es) p) (F p) ≡ recall_or (recalled sizes es p) (F p)
  keep_if sizes es q y F true is p = told_same sizes es (record { point = q; answer = y }) F is p
  keep_if sizes es q y F false is p = refl

  keep_tells : (sizes : List ℕ) (es : List Entry) (q : List ℕ) (F : List ℕ → Result (List ℕ) Fault) (b : Result (List ℕ) Fault) → F q ≡ b → (p : List ℕ) → recall_or (recalled sizes (kept es q b) p) (F p) ≡ recall_or (recalled sizes es p) (F p)
  keep_tells sizes es q F (Ok y) is p = keep_if sizes es q y F (nat_lt (length es) 64) is p
  keep_tells sizes es q F (Err f) is p = refl

  pub memo_same : (m n : Memo M) (q : List ℕ) → SameRules r m.map n.map → stored n ≡ kept (stored m) q (r.meaning m.map q) → SameRules (memo_rules r) m n
  memo_same m n q same keeps = record {
    dims = same.dims;
    sizes = same.sizes;
    meaning = λ p.
        ap (λ sizes. at_points sizes (λ k. recall_or (recalled sizes (stored n) k) (r.meaning n.map k)) p) same.sizes
        ∙ ap (λ b. at_points (r.sizes m.map) (λ k. recall_or (recalled (r.sizes m.map) (stored n) k) b) p) (same.meaning p)
        ∙ ap (λ es. at_points (r.sizes m.map) (λ k. recall_or (recalled (r.sizes m.map) es k) (r.meaning m.map p)) p) keeps
        ∙ ap (λ t. at_points (r.sizes m.map) (λ k. t) p) (keep_tells (r.sizes m.map) (stored m) q (r.meaning m.map) (r.meaning m.map q) refl p);
  }

module _ {M : Type 0} (r : Rules M) (m : Memo M) (q : List ℕ) (at_point : is_point (r.sizes m.map) q ≡ true) (fresh : recalled (r.sizes m.map) (stored m) q ≡ None) where
  -- a question that is not recalled is told as the map below gives it
  pub asked_tells : (memo_rules r).meaning m q ≡ passed (r.meaning m.map q)
  asked_tells =
      cond-true _ _ _ at_point ∙ ap (λ o. recall_or o (r.meaning m.map q)) fresh

  -- and moves the memo as the map below moves
  pub asked_leads : (n : Memo M) → Asked r m q n → Moved r m q n
  asked_leads n moved =
      let put : asks r m q ≡ true = rw (at_point, fresh) in
      record { asked = λ t. moved; idle = λ t. absurd (both_ways _ t put) }
