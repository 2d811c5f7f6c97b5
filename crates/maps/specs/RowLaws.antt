-- The rows map keeps the laws of a map.
use Rattle.std.specs.Prelude.{◌≡◌, ℕ, ◌<◌, ◌≤◌, Bool, true, false, cond, List, [], ◌∷◌, Some, None, Ok, Err, Option}
use Rattle.std.proofs.Common.{sym, ap, ◌∙◌, arith}
use Rattle.std.proofs.lemmas.Bool.{and_parts, cond-true, cond-false, le-ltb, lt-ltb}
use Rattle.std.proofs.lemmas.Bool.Decides.{nat_tests}
use Rattle.points.specs.Points.{is_point, same_ranks, size_of}
use Rattle.points.specs.declared.Entry.{Entry}
use Rattle.points.specs.declared.Fault.{Fault}
use Rattle.points.proofs.Eight.{eight_at, eight_length}
use Rattle.points.proofs.Guarded.{answered, faulted, no_point}
use Rattle.maps.specs.Replies.{all_points, answer_or, listed_answer, row_size, row_sizes}
use Rattle.maps.specs.RowsMade.{row_rules, rows_of, sizes_of}
use Rattle.maps.specs.Rules.{RulesLaws}

pub used_size : (d n i : ℕ) → i < d → n ≡ row_size d n i
used_size d n i h = sym (cond-true _ _ _ (lt-ltb i d h))

pub unused_size : (d n i : ℕ) → d ≤ i → row_size d n i ≡ 1
unused_size d n i h = cond-false _ _ _ (le-ltb i d h)

pub size_most : (d n i : ℕ) → 1 ≤ n → i < 8 → size_of (row_sizes d n) i ≤ n
size_most d n i some h = rw (eight_at (row_size d n) i h) (grind (arith, nat_tests))

pub size_some : (d n i : ℕ) → 1 ≤ n → i < 8 → 1 ≤ size_of (row_sizes d n) i
size_some d n i some h = rw (eight_at (row_size d n) i h) (grind (arith, nat_tests))

-- what a row lists is a point
listed_if : (sizes : List ℕ) (row : Entry) (rows : List Entry) (q y : List ℕ) (b : Bool) → is_point sizes row.answer ≡ true → (listed_answer rows q ≡ Some y → is_point sizes y ≡ true) → cond b (Some row.answer) (listed_answer rows q) ≡ Some y → is_point sizes y ≡ true
listed_if sizes row rows q y true a rest e = let s : row.answer ≡ y = cc in rw (← s) a
listed_if sizes row rows q y false a rest e = rest e

listed_point : (sizes : List ℕ) (rows : List Entry) (q y : List ℕ) → all_points sizes rows ≡ true → listed_answer rows q ≡ Some y → is_point sizes y ≡ true
listed_point sizes [] q y t e = let z : ◌≡◌ {A = ℕ} 0 1 = cc in absurd (omega arith)
listed_point sizes (row ∷ rows) q y t e =
    let parts = and_parts _ _ t in
    listed_if sizes row rows q y (same_ranks row.point q) (and_parts _ _ parts.0).1 (listed_point sizes rows q y parts.1) e

answer_is : (o : Option (List ℕ)) (y : List ℕ) → answer_or o ≡ Ok y → o ≡ Some y
answer_is None y e = let z : ◌≡◌ {A = ℕ} 0 1 = cc in absurd (omega arith)
answer_is (Some x) y e = let s : x ≡ y = cc in ap Some s

fault_is : (o : Option (List ℕ)) (f : Fault) → answer_or o ≡ Err f → (1 ≤ f.cause) × (f.cause ≤ 255) × (f.depth ≤ 255)
fault_is None f e = let s : record { cause = 1; depth = 0 } ≡ f = cc in rw (← s) (omega arith, omega arith, omega arith)
fault_is (Some x) f e = let z : ◌≡◌ {A = ℕ} 0 1 = cc in absurd (omega arith)

pub row_laws : RulesLaws row_rules
row_laws = record {
  counted = λ m. omega arith;
  eight = λ m. eight_length (row_size m.dims m.grades.count);
  some = λ m i h. size_some m.dims m.grades.count i m.grades.some h;
  unused = λ m i past h. eight_at (row_size m.dims m.grades.count) i h ∙ unused_size m.dims m.grades.count i past;
  answers = λ m q y e. listed_point (sizes_of m) (rows_of m) q y m.points (answer_is _ y (answered (sizes_of m) (λ p. answer_or (listed_answer (rows_of m) p)) q y e).1);
  faults = λ m q f e. faulted (sizes_of m) (λ p. answer_or (listed_answer (rows_of m) p)) q (λ g. (1 ≤ g.cause) × (g.cause ≤ 255) × (g.depth ≤ 255)) f (omega arith, omega arith, omega arith) (λ g. fault_is (listed_answer (rows_of m) q) g) e;
  outsides = λ m q t. no_point (sizes_of m) (λ p. answer_or (listed_answer (rows_of m) p)) q t;
}
