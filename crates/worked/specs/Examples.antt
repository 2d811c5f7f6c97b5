-- The worked examples, by the definitions that the contracts of the calls cite.
use Rattle.std.specs.Prelude.{◌≡◌, ℕ, ◌≤◌, List, [], ◌∷◌, replicate, Some, None, Ok, Err}
use Rattle.points.specs.declared.Entry.{Entry}
use Rattle.maps.specs.JobOrder.{job_order}
use Rattle.maps.specs.Recall.{memo_rules}
use Rattle.maps.specs.Response.{job_rules}
use Rattle.maps.specs.RowsMade.{row_order, row_rules}
use Rattle.chains.specs.Through.{through}
use Rattle.maps.specs.declared.jobs.panel.Jobs.{Jobs}
use Rattle.maps.specs.declared.memo.store.Memo.{Memo}
use Rattle.maps.specs.declared.rows.table.Rows.{Rows}
use Rattle.bisection.specs.Bits.{binary_digits}
use Rattle.bisection.specs.declared.bounds.Bounds.{Bounds}
use Rattle.study.specs.Calls.{Call, Deed, deed}
use Rattle.study.specs.Calls.Call.{raise, lower, search}
use Rattle.study.specs.History.{made, whole_box}
use Rattle.study.specs.Replies.{Reply}
use Rattle.study.specs.declared.reply.Refusal.TheVariants.{Spent, Faulted, Side, Full}
use Rattle.study.specs.declared.reply.Report.TheVariants.{Answered, Settled, Pair}
use Rattle.worked.specs.Sheets.{A, B, MemoTableOf, TableOf, TwoJobs, at_a, at_b, row}

-- a strip of eight cells and a record of n entries, all zeros
abbrev pub strip : List ℕ
strip = replicate 8 0

abbrev pub blanks : ℕ → List Entry
blanks n = replicate n (record { point = replicate 8 0; answer = replicate 8 0 })

-- what a call leaves on a study that was newly made with this allowance, with that strip and a record of so many entries: over
-- jobs, over rows, and over a memo of rows
abbrev pub over_jobs : Jobs → ℕ → ℕ → Call ℕ → Deed ℕ
over_jobs m allowance room = deed job_order job_rules (made job_rules m allowance) strip (blanks room)

abbrev pub over_rows : Rows → ℕ → ℕ → Call ℕ → Deed ℕ
over_rows m allowance room = deed row_order row_rules (made row_rules m allowance) strip (blanks room)

abbrev pub over_memo : Memo Rows → ℕ → ℕ → Call ℕ → Deed ℕ
over_memo m allowance room = deed (through (λ n. n.map) row_order) (memo_rules row_rules) (made (memo_rules row_rules) m allowance) strip (blanks room)

-- its reply, and the strip afterwards
abbrev pub Leaves : Deed ℕ → Reply → List ℕ → Type 0
Leaves d reply cells = (d.reply ≡ reply) × (d.strip ≡ cells)

-- two values stand first in the strip, and its other cells are as they were
abbrev pub showing : ℕ → ℕ → List ℕ
showing a b = a ∷ b ∷ 0 ∷ 0 ∷ 0 ∷ 0 ∷ 0 ∷ 0 ∷ []

-- two ranks as a point
abbrev pub ranks : ℕ → ℕ → List ℕ
ranks a b = a ∷ b ∷ 0 ∷ 0 ∷ 0 ∷ 0 ∷ 0 ∷ 0 ∷ []

-- the box of the sheet that is whole but for its floor, which is (100, 100) by the answer (150, 250): in ranks (2, 2) and (3, 5)
abbrev pub raised_box : Bounds
raised_box =
    record {
      floor = record { at = ranks 2 2; footing = Some (row (ranks 2 2) (ranks 3 5)) };
      roof = record { at = ranks 11 21; footing = None };
    }

pub record WorkedExamples : Type 0 where
  -- the two-job sheet settles (150, 250) in 6 questions, for which an allowance of 6 and a record of 6 are enough
  pub settles : (m : Jobs) → TwoJobs m → (allowance room : ℕ) → 6 ≤ allowance → 6 ≤ room → Leaves (over_jobs m allowance room search) (Ok (Settled 6)) (showing 150 250)
  pub questions : (m : Jobs) → TwoJobs m → (over_jobs m 6 6 search).questions ≡ ranks 5 10 ∷ ranks 1 10 ∷ ranks 3 10 ∷ ranks 1 2 ∷ ranks 3 2 ∷ ranks 3 5 ∷ []
  -- 5 are not: nothing is left, also where the record has 5 entries as well; or else the record is full
  pub spent : (m : Jobs) → TwoJobs m → (room : ℕ) → 5 ≤ room → Leaves (over_jobs m 5 room search) (Err (Spent 5)) strip
  pub full : (m : Jobs) → TwoJobs m → (allowance : ℕ) → 6 ≤ allowance → Leaves (over_jobs m allowance 5 search) (Err (Full 5)) strip
  -- its raise of (100, 100) answers (150, 250) and is accepted
  pub raises : (m : Jobs) → TwoJobs m → (allowance : ℕ) → 1 ≤ allowance → Leaves (over_jobs m allowance 0 (raise (100 ∷ 100 ∷ []))) (Ok (Answered 1)) (showing 150 250)
  pub raises_floor : (m : Jobs) → TwoJobs m → (allowance : ℕ) → 1 ≤ allowance → (over_jobs m allowance 0 (raise (100 ∷ 100 ∷ []))).box ≡ raised_box
  -- its lower of (150, 200) answers (150, 250) and is refused in coordinate 2, so that the box stays whole
  pub lowers : (m : Jobs) → TwoJobs m → (allowance : ℕ) → 1 ≤ allowance → Leaves (over_jobs m allowance 0 (lower (150 ∷ 200 ∷ []))) (Err (Side 2)) (showing 150 250)
  pub lowers_nothing : (m : Jobs) → TwoJobs m → (allowance : ℕ) → 1 ≤ allowance → (over_jobs m allowance 0 (lower (150 ∷ 200 ∷ []))).box ≡ whole_box (12 ∷ 22 ∷ replicate 6 1)
  -- A is answered B and B is answered A: they are a pair in coordinate 1 after 2 questions
  pub crossed : (m : Rows) → TableOf (row at_a at_b ∷ row at_b at_a ∷ []) m → (allowance room : ℕ) → 2 ≤ allowance → 2 ≤ room → Leaves (over_rows m allowance room search) (Ok (Pair 2 1)) (A ∷ B ∷ B ∷ A ∷ 0 ∷ 0 ∷ 0 ∷ 0 ∷ [])
  -- B alone is listed: the first question meets cause 1, which is one deeper under a memo
  pub unlisted : (m : Rows) → TableOf (row at_b at_b ∷ []) m → (allowance room : ℕ) → 1 ≤ allowance → 1 ≤ room → Leaves (over_rows m allowance room search) (Err (Faulted (record { cause = 1; depth = 0 }) 1)) strip
  pub unlisted_below : (m : Memo Rows) → MemoTableOf (row at_b at_b ∷ []) m → (allowance room : ℕ) → 1 ≤ allowance → 1 ≤ room → Leaves (over_memo m allowance room search) (Err (Faulted (record { cause = 1; depth = 1 }) 1)) strip
  -- A and B are their own answers: A settles in 1 question
  pub both_fixed : (m : Rows) → TableOf (row at_a at_a ∷ row at_b at_b ∷ []) m → (allowance room : ℕ) → 1 ≤ allowance → 1 ≤ room → Leaves (over_rows m allowance room search) (Ok (Settled 1)) (showing A 0)
  -- the binary digits of three widths
  pub three : binary_digits 3 ≡ 2
  pub four : binary_digits 4 ≡ 3
  pub widest : binary_digits 4294967295 ≡ 32
