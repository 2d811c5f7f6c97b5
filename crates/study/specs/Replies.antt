-- The numbers and details of every refusal, and the counts of every reply.
use Rattle.std.specs.Prelude.{ℕ, Ok, Err, Result}
use Rattle.study.specs.declared.reply.Details.{Details}
use Rattle.study.specs.declared.reply.Refusal.{Refusal}
use Rattle.study.specs.declared.reply.Refusal.TheVariants.{Strip, Values, Value, Spent, Faulted, Outside, Side, Full}
use Rattle.study.specs.declared.reply.Report.{Report}
use Rattle.study.specs.declared.reply.Report.TheVariants.{Answered, Settled, Pair}

abbrev pub details : ℕ → ℕ → ℕ → ℕ → Details
details number a b count = record { number = number; a = a; b = b; count = count }

-- 1 to 3 and 6 put no question; 7 put one; 4, 5 and 8 tell how many
abbrev pub details_of : Refusal → Details
details_of Strip = details 1 0 0 0
details_of Values = details 2 0 0 0
details_of (Value coordinate) = details 3 coordinate 0 0
details_of (Spent count) = details 4 0 0 count
details_of (Faulted fault count) = details 5 fault.cause fault.depth count
details_of (Outside coordinate) = details 6 coordinate 0 0
details_of (Side coordinate) = details 7 coordinate 0 1
details_of (Full count) = details 8 0 0 count

-- how many questions a call that was not refused reports
abbrev pub count_of : Report → ℕ
count_of (Answered count) = count
count_of (Settled count) = count
count_of (Pair count coordinate) = count

-- what a call answers, refused or not
abbrev pub Reply : Type 0
Reply = Result Report Refusal

-- how many questions it reports
abbrev pub reported : Reply → ℕ
reported (Ok report) = count_of report
reported (Err refusal) = (details_of refusal).count
