-- The sheets of the worked examples, by what their makers' contracts tell of them.
use Rattle.std.specs.Prelude.{◌≡◌, ℕ, List, [], ◌∷◌, vec_items}
use Rattle.chains.specs.GradeOrder.{listed}
use Rattle.points.specs.declared.Entry.{Entry}
use Rattle.maps.specs.Recall.{stored}
use Rattle.maps.specs.RowsMade.{rows_of}
use Rattle.maps.specs.declared.jobs.job.Job.{Job}
use Rattle.maps.specs.declared.jobs.job.Lock.{Lock}
use Rattle.maps.specs.declared.jobs.job.Lock.TheVariants.{Free, Inherit}
use Rattle.maps.specs.declared.jobs.panel.Jobs.{Jobs}
use Rattle.maps.specs.declared.memo.store.Memo.{Memo}
use Rattle.maps.specs.declared.rows.table.Rows.{Rows}

-- a job of these numbers, in ticks, and this lock
pub record JobOf (run period limit hold : ℕ) (lock : Lock) (j : Job) : Type 0 where
  pub runs : j.run ≡ run
  pub periods : j.period ≡ period
  pub limits : j.limit ≡ limit
  pub holds : j.hold ≡ hold
  pub locks : j.lock ≡ lock

-- the two-job sheet, in ticks of 50 microseconds: the second job holds an inheriting lock for one of its ticks
pub record TwoJobs (m : Jobs) : Type 0 where
  pub step : m.ticks.step ≡ 50
  pub first : Job
  pub second : Job
  pub jobs : vec_items m.jobs ≡ first ∷ second ∷ []
  pub first_is : JobOf 2 10 10 0 Free first
  pub second_is : JobOf 3 20 20 1 Inherit second

-- the grades of the reply tables, A and B, as values and as points of the one coordinate
abbrev pub A : ℕ
A = 65

abbrev pub B : ℕ
B = 66

abbrev pub at_a : List ℕ
at_a = 0 ∷ 0 ∷ 0 ∷ 0 ∷ 0 ∷ 0 ∷ 0 ∷ 0 ∷ []

abbrev pub at_b : List ℕ
at_b = 1 ∷ 0 ∷ 0 ∷ 0 ∷ 0 ∷ 0 ∷ 0 ∷ 0 ∷ []

-- the row that answers one point by another
abbrev pub row : List ℕ → List ℕ → Entry
row point answer = record { point = point; answer = answer }

-- a table over them that lists these rows
pub record TableOf (rows : List Entry) (m : Rows) : Type 0 where
  pub grades : listed m.grades ≡ A ∷ B ∷ []
  pub dims : m.dims ≡ 1
  pub lists : rows_of m ≡ rows

-- a memo over such a table, with nothing stored
pub record MemoTableOf (rows : List Entry) (m : Memo Rows) : Type 0 where
  pub below : TableOf rows m.map
  pub empty : stored m ≡ []
