-- The whole text of calls on a newly made study.
use Rattle.std.specs.Prelude.{◌≡◌, ℕ, List, [], ◌++◌}
use Rattle.chains.specs.Order.{Order}
use Rattle.points.specs.declared.Entry.{Entry}
use Rattle.maps.specs.Rules.{Rules}
use Rattle.study.specs.Calls.{Call}
use Rattle.study.specs.History.{Event, Run, made}
use Rattle.study.specs.Law.{AllLawful}
use Rattle.study.specs.declared.state.Study.{Study}
use Rattle.transcript.specs.Lines.{kind_line, left_line}
use Rattle.transcript.specs.Ran.{calls_onto, told_of}
use Rattle.transcript.specs.Transcript.{starting, transcript}

module _ {M V : Type 0} (o : Order M V) (r : Rules M) (show : V → List ℕ) (kind : ℕ) where
  -- it is what its definition says; and it tells of exactly these calls, on a newly made study, each of them lawful
  pub record Studied (m : M) (allowance : ℕ) (strip : List V) (log : List Entry) (calls : List (Call V)) (text : List ℕ) : Type 0 where
    pub exact : text ≡ transcript o r m show kind (starting o r m allowance strip log) calls
    pub history : List (Event M V)
    pub last : Study M
    pub run : Run o r (made r m allowance) history last
    pub asked : calls_onto history [] ≡ calls
    pub lawful : AllLawful o r allowance history
    pub told : text ≡ kind_line kind ++ (told_of o r show history ++ left_line last.left)
