-- The grade chain: the member at rank r is the letter listed r-th, from 0.
use Rattle.std.specs.Prelude.{ℕ, cond, not, ◌&&◌, List, length, take, Some, None, Option, nat_le}
use Rattle.std.specs.List.{slice_get}
use Rattle.chains.specs.Order.{Order}
use Rattle.chains.specs.Letters.{capitals, different, place_of}
use Rattle.chains.specs.declared.grades.letters.Grades.{Grades}
use Rattle.chains.specs.declared.grades.GradesFault.{GradesFault}
use Rattle.chains.specs.declared.grades.GradesFault.TheVariants.{Count, Capital, Repeated}

-- its letters, low first
abbrev pub listed : Grades → List ℕ
listed c = take c.count c.letters

abbrev pub grade_order : Order Grades ℕ
grade_order = record { size = λ c. c.count; member = λ c r. slice_get (listed c) r; rank = λ c v. place_of (listed c) v }

-- what is wrong with a list of letters: it wants 1 to 8, all capital, all different
abbrev pub grades_fault : List ℕ → Option GradesFault
grades_fault letters =
    cond (not (nat_le 1 (length letters) && nat_le (length letters) 8)) (Some Count)
    (cond (not (capitals letters)) (Some Capital)
    (cond (not (different letters)) (Some Repeated) None))
