use Rattle.bisection.proofs.Promised.{questions_are_in_box_lem}
use Rattle.bisection.proofs.theorems.questions_are_in_box.Goals as goal

pub returns : goal.returns
returns c = questions_are_in_box_lem
