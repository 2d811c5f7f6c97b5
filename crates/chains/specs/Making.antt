-- How a value that may be refused is made: from a rule that tells what is wrong, if anything.
use Rattle.std.specs.Prelude.{◌≡◌, Some, None, Ok, Err, Option, Result}

-- it is made, and is as wanted, exactly where the rule tells no fault; else it is refused with that fault
abbrev pub Made : {T F : Type 0} → Option F → (T → Type 0) → Result T F → Type 0
Made fault Wanted (Ok t) = (fault ≡ None) × Wanted t
Made fault Wanted (Err f) = fault ≡ Some f
