-- A search on a newly made study of a panel, after which the panel is studied anew.
use Rattle.std.specs.Prelude.{◌≡◌, ℕ, ◌+◌, List, length}
use Rattle.points.specs.declared.Entry.{Entry}
use Rattle.maps.specs.JobOrder.{job_order}
use Rattle.maps.specs.Response.{job_rules}
use Rattle.maps.specs.Rules.{SameRules}
use Rattle.maps.specs.declared.jobs.panel.Jobs.{Jobs}
use Rattle.study.specs.Calls.{Deed, deed}
use Rattle.study.specs.Calls.Call.{search}
use Rattle.study.specs.History.{made}
use Rattle.study.specs.declared.state.Study.{Study}

-- what the search leaves
abbrev pub first_search : Jobs → ℕ → List ℕ → List Entry → Deed ℕ
first_search m allowance strip log = deed job_order job_rules (made job_rules m allowance) strip log search

-- the study that is made after it: its box is whole, its map answers as before, and the questions of the search are spent
pub record Anew (m : Jobs) (allowance : ℕ) (strip : List ℕ) (log : List Entry) (s : Study Jobs) : Type 0 where
  pub whole : s ≡ made job_rules s.map s.left
  pub same : SameRules job_rules m s.map
  pub left : s.left + length (first_search m allowance strip log).questions ≡ allowance
