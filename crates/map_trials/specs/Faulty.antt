-- A map of one grade coordinate that faults at every point.
use Rattle.std.specs.Prelude.{◌≡◌, ℕ, List, [], ◌∷◌, Err}
use Rattle.points.specs.Points.{at_points}
use Rattle.maps.specs.Rules.{Rules}
use Rattle.map_trials.specs.declared.broken.state.Broken.{Broken}

abbrev pub broken_sizes : Broken → List ℕ
broken_sizes m = m.grades.count ∷ 1 ∷ 1 ∷ 1 ∷ 1 ∷ 1 ∷ 1 ∷ 1 ∷ []

abbrev pub broken_rules : Rules Broken
broken_rules = record {
  dims = λ m. 1;
  sizes = broken_sizes;
  meaning = λ m. at_points (broken_sizes m) (λ q. Err (record { cause = 7; depth = m.depth }));
  puts = λ m q n. n ≡ m;
}
