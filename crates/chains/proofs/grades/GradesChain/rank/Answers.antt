use Rattle.std.proofs.Common.{arith, rules}
use Rattle.std.proofs.lemmas.List.{length-take-le}
use Rattle.chains.specs.GradeOrder.{listed}
use Rattle.chains.specs.LetterLaws.{place_below}
use Rattle.chains.proofs.grades.GradesChain.rank.Goals as goal

pub overflow_cast-result : goal.overflow_cast-result
overflow_cast-result c =
    let self = c.args.self.now in
    let h = place_below (listed self) c.args.value c.in_ok-place.place (search rules) in
    omega (arith, h, length-take-le self.count self.letters (omega arith))
