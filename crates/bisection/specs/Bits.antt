-- Binary digits, and the most questions that a search can put.
use Rattle.std.specs.Prelude.{ℕ, zero, suc, ◌*◌, ◌/◌, true, false, ◌==◌}
use Rattle.bisection.specs.Bounds.{width}
use Rattle.bisection.specs.declared.bounds.Bounds.{Bounds}

-- how often w can be halved until nothing is left, counted up to `most`
abbrev pub halvings : ℕ → ℕ → ℕ
halvings zero w = 0
halvings (suc most) w = elim (w == 0) [ true ↦ 0 | false ↦ suc (halvings most (w / 2)) ]

-- the binary digits of w: 1 for 1, 2 for 2 and 3, 3 for 4 to 7; 0 has none
abbrev pub binary_digits : ℕ → ℕ
binary_digits w = halvings w w

-- the product, over the first n coordinates, of the binary digits of the width
abbrev pub product : ℕ → Bounds → ℕ
product zero b = 1
product (suc k) b = binary_digits (width b k) * product k b
