-- A map that faults at every point keeps the laws of a map.
use Rattle.std.specs.Prelude.{◌≡◌, ℕ, ◌≤◌, Err, refl}
use Rattle.std.proofs.Common.{◌∙◌, arith}
use Rattle.points.proofs.Eight.{eight_at}
use Rattle.points.proofs.Guarded.{answered, faulted, no_point}
use Rattle.maps.specs.Replies.{row_size}
use Rattle.maps.specs.RowLaws.{size_some, unused_size}
use Rattle.maps.specs.Rules.{RulesLaws}
use Rattle.map_trials.specs.Faulty.{broken_rules, broken_sizes}

pub broken_laws : RulesLaws broken_rules
broken_laws = record {
  counted = λ m. omega arith;
  eight = λ m. refl;
  some = λ m i h. size_some 1 m.grades.count i m.grades.some h;
  unused = λ m i past h. eight_at (row_size 1 m.grades.count) i h ∙ unused_size 1 m.grades.count i past;
  answers = λ m q y e.
      let none = (answered (broken_sizes m) (λ _. Err (record { cause = 7; depth = m.depth })) q y e).1 in
      let z : ◌≡◌ {A = ℕ} 0 1 = cc in absurd (omega arith);
  faults = λ m q f e.
      faulted (broken_sizes m) (λ _. Err (record { cause = 7; depth = m.depth })) q (λ g. (1 ≤ g.cause) × (g.cause ≤ 255) × (g.depth ≤ 255)) f (omega arith, omega arith, omega arith)
      (λ g is. let s : record { cause = 7; depth = m.depth } ≡ g = cc in rw (← s) (omega arith, omega arith, m.most)) e;
  outsides = λ m q t. no_point (broken_sizes m) (λ _. Err (record { cause = 7; depth = m.depth })) q t;
}
