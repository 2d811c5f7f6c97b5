-- The number of each fault of a file.
use Rattle.std.specs.Prelude.{ℕ}
use Rattle.sheets.specs.declared.faults.Fault.{Fault}
use Rattle.sheets.specs.declared.faults.Fault.TheVariants.{Text, Contents, Form, Range, Grade, Repeated, Size}

abbrev pub fault_number : Fault → ℕ
fault_number Text = 20
fault_number Contents = 21
fault_number Form = 22
fault_number Range = 23
fault_number Grade = 24
fault_number Repeated = 25
fault_number Size = 27
