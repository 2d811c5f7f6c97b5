-- What every layer does: it passes a fault on, one deeper.
use Rattle.std.specs.Prelude.{◌+◌, min, Ok, Err, Result}
use Rattle.points.specs.declared.Fault.{Fault}

-- the depth stops at 255
abbrev pub deeper : Fault → Fault
deeper f = record { cause = f.cause; depth = min 255 (f.depth + 1) }

-- what a map below gave, as its layer gives it
abbrev pub passed : {A : Type 0} → Result A Fault → Result A Fault
passed (Ok y) = Ok y
passed (Err f) = Err (deeper f)
