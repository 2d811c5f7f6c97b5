-- Ticks as plain numbers: with this step and this size, the member at a rank, and the rank of a value.
use Rattle.std.specs.Prelude.{ℕ, ◌*◌, ◌/◌, ◌%◌, cond, ◌&&◌, Some, None, Option, ◌==◌, nat_lt}

abbrev pub tick_member : ℕ → ℕ → ℕ → Option ℕ
tick_member step size r = cond (nat_lt r size) (Some (r * step)) None

abbrev pub tick_rank : ℕ → ℕ → ℕ → Option ℕ
tick_rank step size v = cond (v % step == 0 && nat_lt (v / step) size) (Some (v / step)) None
