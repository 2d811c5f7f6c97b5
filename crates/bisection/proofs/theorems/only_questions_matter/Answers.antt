use Rattle.bisection.proofs.Promised.{only_questions_matter_lem}
use Rattle.bisection.proofs.theorems.only_questions_matter.Goals as goal

pub returns : goal.returns
returns c = only_questions_matter_lem
