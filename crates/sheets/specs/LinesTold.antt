-- The line that is told of a fault is a line of the file, or the one after its last.
use Rattle.std.specs.Prelude.{ℕ, suc, ◌≤◌, cond, List, [], ◌∷◌, Ok, Err, Result, ◌==◌}
use Rattle.sheets.specs.declared.faults.Unread.{Unread}
use Rattle.sheets.specs.declared.faults.Unread.TheVariants.{Bad, Memory}

-- how many lines end in these bytes
abbrev pub lines_in : List ℕ → ℕ
lines_in [] = 0
lines_in (b ∷ bs) = cond (b == 10) (suc (lines_in bs)) (lines_in bs)

abbrev pub ToldWithin : {X : Type 0} → List ℕ → Result X Unread → Type 0
ToldWithin bytes (Ok x) = Unit {0}
ToldWithin bytes (Err (Bad fault line)) = line ≤ suc (lines_in bytes)
ToldWithin bytes (Err Memory) = Unit {0}
