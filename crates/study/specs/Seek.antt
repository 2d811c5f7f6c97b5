-- What the inner search leaves, from any state of a study: the run of the nested bisection, and nothing else.
use Rattle.std.specs.Prelude.{◌≡◌, ℕ, suc, ◌+◌, Ok, Err, Result, List, ◌++◌, length, drop}
use Rattle.chains.specs.Order.{Order}
use Rattle.points.specs.declared.Entry.{Entry}
use Rattle.maps.specs.Rules.{Rules, SameOrder, SameRules}
use Rattle.bisection.specs.Run.{Outcome, Ran, count, questions, searched}
use Rattle.study.specs.History.{Leads}
use Rattle.study.specs.declared.reply.Refusal.{Refusal}
use Rattle.study.specs.declared.seek.Found.{Found}
use Rattle.study.specs.declared.seek.Found.TheVariants.{Settled, Pair}
use Rattle.study.specs.declared.seek.Halt.{Halt}
use Rattle.study.specs.declared.state.Study.{Study}

-- an outcome, as the code tells it
abbrev pub ended_by : Outcome → Result Found Halt
ended_by (Outcome.settles q) = Ok (Settled q)
ended_by (Outcome.pairs low high k) = Ok (Pair low high (suc k))
ended_by Outcome.spent = Err Halt.Spent
ended_by Outcome.full = Err Halt.Full
ended_by (Outcome.faults q f) = Err (Halt.Faulted f)

-- the refusal of a search that halted after so many questions
abbrev pub refusal_of : ℕ → Halt → Refusal
refusal_of count Halt.Spent = Refusal.Spent count
refusal_of count Halt.Full = Refusal.Full count
refusal_of count (Halt.Faulted f) = Refusal.Faulted f count

-- the search that is due in this state, with this record
abbrev pub due_search : {M : Type 0} → Rules M → Study M → List Entry → Ran
due_search r s log = searched (r.meaning s.map) (r.dims s.map) s.bounds s.left (length log)

pub record Sought {M V : Type 0} (o : Order M V) (r : Rules M) (s : Study M) (log : List Entry) (end : Result Found Halt) (t : Study M) (logged : List Entry) : Type 0 where
  pub ended : end ≡ ended_by (due_search r s log).outcome
  pub filled : logged ≡ (due_search r s log).entries ++ drop (length (due_search r s log).entries) log
  pub box : t.bounds ≡ s.bounds
  pub left : t.left + count (due_search r s log) ≡ s.left
  pub leads : Leads r s.map (questions (due_search r s log)) t.map
  pub same : SameRules r s.map t.map
  pub same_order : SameOrder o s.map t.map
