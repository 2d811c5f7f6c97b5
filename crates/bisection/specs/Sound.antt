-- A sound box: what holds of a study's floor, roof and footings before a search.
use Rattle.std.specs.Prelude.{◌≡◌, ℕ, suc, ◌<◌, ◌≤◌, true, List, Some, None, Ok, Option}
use Rattle.points.specs.declared.Entry.{Entry}
use Rattle.points.specs.Points.{rank_of, size_of, is_point, AtMost, Meaning}
use Rattle.bisection.specs.declared.bounds.Bounds.{Bounds}

-- the lowest point, and the highest
abbrev pub Bottom : List ℕ → Type 0
Bottom p = (i : ℕ) → rank_of p i ≡ 0

abbrev pub Top : List ℕ → List ℕ → Type 0
Top sizes p = (i : ℕ) → i < 8 → suc (rank_of p i) ≡ size_of sizes i

-- a floor with no footing is the bottom; a footing's point and answer lie on its two sides, and the answer is F's
abbrev pub FloorStands : Meaning → List ℕ → Option Entry → Type 0
FloorStands F floor None = Bottom floor
FloorStands F floor (Some e) = AtMost e.point floor × AtMost floor e.answer × (F e.point ≡ Ok e.answer)

-- the mirror for a roof
abbrev pub RoofStands : Meaning → List ℕ → List ℕ → Option Entry → Type 0
RoofStands F sizes roof None = Top sizes roof
RoofStands F sizes roof (Some e) = AtMost e.answer roof × AtMost roof e.point × (F e.point ≡ Ok e.answer)

-- F answers by points in the d coordinates of these sizes, and the box is one that its floor's and its roof's footings justify
pub record Sound (F : Meaning) (sizes : List ℕ) (d : ℕ) (box : Bounds) : Type 0 where
  pub some : 1 ≤ d
  pub most : d ≤ 8
  pub unused : (i : ℕ) → d ≤ i → i < 8 → size_of sizes i ≡ 1
  pub answers : (q y : List ℕ) → F q ≡ Ok y → is_point sizes y ≡ true
  pub floor_point : is_point sizes box.floor.at ≡ true
  pub roof_point : is_point sizes box.roof.at ≡ true
  pub ordered : AtMost box.floor.at box.roof.at
  pub floor_stands : FloorStands F box.floor.at box.floor.footing
  pub roof_stands : RoofStands F sizes box.roof.at box.roof.footing
