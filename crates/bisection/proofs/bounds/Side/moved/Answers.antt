use Rattle.std.proofs.Common.{◌++◌, get_or, drop, set, take, Some, ap, ◌∙◌, arith}
use Rattle.std.proofs.lemmas.List.{length-take-le}
use Rattle.bisection.proofs.Written.{written}
use Rattle.bisection.proofs.bounds.Side.moved.Goals as goal

pub returns : goal.returns
returns c =
    let put = c.args.put.now in
    let k = c.args.k in
    let side = c.args.self.now.at in
    ap (λ front. record { at = set (front ++ drop k side) k (get_or put.answer k 0); footing = Some put }) c.copy_from_slice.ensures.after
    ∙ ap (λ at. record { at = at; footing = Some put }) (written (take k put.point) side k (get_or put.answer k 0) (length-take-le k put.point (omega arith)) (omega arith))
