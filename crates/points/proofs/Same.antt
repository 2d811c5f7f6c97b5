-- What the comparison of two lists of ranks tells.
use Rattle.std.proofs.Common.{◌≡◌, ℕ, List, Decides, rules}
use Rattle.std.proofs.lemmas.Slice.Eq.{compares_Decides}
use Rattle.points.specs.Points.{same_ranks}

pub same_decides : (p q : List ℕ) → Decides (same_ranks p q) (p ≡ q)
same_decides p q = compares_Decides same_ranks (search rules) p q
