-- Several lines of one kind.
use Rattle.std.specs.Prelude.{ℕ, zero, suc, List, [], ◌∷◌, ◌++◌}
use Rattle.sheets.specs.Reading.{Reader, ◌>>=◌, give}

-- so many more lines, after those that were read before; what a line may hold can depend on the lines before it
abbrev pub more_lines : {X : Type 0} → (List X → Reader X) → ℕ → List X → Reader (List X)
more_lines kind zero before = give before
more_lines kind (suc lines) before = kind before >>= λ x. more_lines kind lines (before ++ x ∷ [])

abbrev pub many_lines : {X : Type 0} → (List X → Reader X) → ℕ → Reader (List X)
many_lines kind lines = more_lines kind lines []
