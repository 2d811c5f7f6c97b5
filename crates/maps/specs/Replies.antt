-- Reply tables: which rows list which answers.
use Rattle.std.specs.Prelude.{ℕ, ◌+◌, ◌*◌, Bool, true, cond, ◌&&◌, List, [], ◌∷◌, Some, None, Ok, Err, Option, Result, nat_lt}
use Rattle.points.specs.Points.{Meaning, at_points, eight, is_point, rank_of, same_ranks}
use Rattle.points.specs.declared.Entry.{Entry}
use Rattle.points.specs.declared.Fault.{Fault}

-- the answer that the first row for q lists
abbrev pub listed_answer : List Entry → List ℕ → Option (List ℕ)
listed_answer [] q = None
listed_answer (row ∷ rows) q = cond (same_ranks row.point q) (Some row.answer) (listed_answer rows q)

-- d coordinates of n members each
abbrev pub row_size : ℕ → ℕ → ℕ → ℕ
row_size d n i = cond (nat_lt i d) n 1

abbrev pub row_sizes : ℕ → ℕ → List ℕ
row_sizes d n = eight (row_size d n)

-- what is told of a point that no row lists
abbrev pub unlisted : Fault
unlisted = record { cause = 1; depth = 0 }

abbrev pub answer_or : Option (List ℕ) → Result (List ℕ) Fault
answer_or None = Err unlisted
answer_or (Some y) = Ok y

abbrev pub row_meaning : List ℕ → List Entry → Meaning
row_meaning sizes rows = at_points sizes (λ q. answer_or (listed_answer rows q))

-- where a point of up to four coordinates of up to eight members stands in a table of 4,096 places
abbrev pub slot_of : List ℕ → ℕ
slot_of p = rank_of p 0 + 8 * rank_of p 1 + 64 * rank_of p 2 + 512 * rank_of p 3

-- each row lists a point, and an answer that is one
abbrev pub all_points : List ℕ → List Entry → Bool
all_points sizes [] = true
all_points sizes (row ∷ rows) = (is_point sizes row.point && is_point sizes row.answer) && all_points sizes rows
