-- The class of a byte.
use Rattle.std.specs.Prelude.{ℕ, Bool, cond, ◌&&◌, ◌==◌, nat_le}
use Rattle.sheets.specs.declared.classes.Class.{Class}
use Rattle.sheets.specs.declared.classes.Class.TheVariants.{LineEnd, Blank, Digit, Capital, Small, Minus, Other}

-- b lies from low to high
abbrev pub from : ℕ → ℕ → ℕ → Bool
from low high b = nat_le low b && nat_le b high

-- 0 to 9 are 48 to 57, A to Z 65 to 90, a to z 97 to 122
abbrev pub class_of : ℕ → Class
class_of b =
    cond (b == 10) LineEnd
    (cond (b == 32) Blank
    (cond (b == 45) Minus
    (cond (from 48 57 b) Digit
    (cond (from 65 90 b) Capital
    (cond (from 97 122 b) Small Other)))))

-- a class by its place in the list of classes
abbrev pub class_number : Class → ℕ
class_number LineEnd = 0
class_number Blank = 1
class_number Digit = 2
class_number Capital = 3
class_number Small = 4
class_number Minus = 5
class_number Other = 6

abbrev pub same_class : Class → Class → Bool
same_class a b = class_number a == class_number b
