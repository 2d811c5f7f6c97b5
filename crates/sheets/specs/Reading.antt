-- Reading a file from the left: what is left of it, and what goes wrong in which line.
use Rattle.std.specs.Prelude.{◌≡◌, ℕ, List, Ok, Err, Result}
use Rattle.sheets.specs.declared.faults.Fault.{Fault}
use Rattle.sheets.specs.declared.faults.Unread.{Unread}
use Rattle.sheets.specs.declared.faults.Unread.TheVariants.{Bad, Memory}
use Rattle.sheets.specs.declared.scanner.state.Scanner.{Scanner}

-- how far a file has been read
pub record State : Type 0 where
  -- what is left of the present line
  pub left : List ℕ
  -- the lines after it
  pub rest : List ℕ
  -- its number, counted from 1
  pub line : ℕ

-- a fault, and the line that has it
abbrev pub Told : Type 0
Told = Fault × ℕ

-- what one kind of text is read as, and what is left after it
abbrev pub Reader : Type 0 → Type 0
Reader X = State → Result (X × State) Told

abbrev pub and_then : {X Y : Type 0} → Result (X × State) Told → (X → Reader Y) → Result (Y × State) Told
and_then (Ok p) next = next p.0 p.1
and_then (Err e) next = Err e

-- one after the other
infixl 1 ◌>>=◌
infixl 1 ◌>>◌
abbrev pub ◌>>=◌ : {X Y : Type 0} → Reader X → (X → Reader Y) → Reader Y
◌>>=◌ first next s = and_then (first s) next

abbrev pub ◌>>◌ : {X Y : Type 0} → Reader X → Reader Y → Reader Y
◌>>◌ first next s = and_then (first s) (λ _. next)

-- nothing more is read
abbrev pub give : {X : Type 0} → X → Reader X
give x s = Ok (x, s)

-- the present line has this fault
abbrev pub refuse : {X : Type 0} → Fault → Reader X
refuse f s = Err (f, s.line)

abbrev pub state_of : Scanner → State
state_of s = record { left = s.left.now; rest = s.rest.now; line = s.line }

-- a fault was told as it is
abbrev pub Tells : {X : Type 0} → Result (X × State) Told → Unread → Type 0
Tells d (Bad f line) = d ≡ Err (f, line)
Tells d Memory = ⊥

-- what was read, by its meaning, and what is left; or the fault
abbrev pub Takes : {X Y : Type 0} → (Y → X) → Result (X × State) Told → Result Y Unread → State → Type 0
Takes meaning d (Ok y) after = d ≡ Ok (meaning y, after)
Takes meaning d (Err e) after = Tells d e

-- the same where memory may be wanting: then nothing is told of the file
abbrev pub TellsOr : {X : Type 0} → Result (X × State) Told → Unread → Type 0
TellsOr d (Bad f line) = d ≡ Err (f, line)
TellsOr d Memory = Unit {0}

abbrev pub Reads : {X Y : Type 0} → (Y → X) → Result (X × State) Told → Result Y Unread → State → Type 0
Reads meaning d (Ok y) after = d ≡ Ok (meaning y, after)
Reads meaning d (Err e) after = TellsOr d e
