use Rattle.bisection.proofs.Promised.{no_question_twice_lem}
use Rattle.bisection.proofs.theorems.no_question_twice.Goals as goal

pub returns : goal.returns
returns c = no_question_twice_lem
