use Rattle.std.proofs.Common.{◌≡◌, ◌-◌, length, take, drop, replicate}
use Rattle.study.specs.Values.{ranks_from}
use Rattle.study.proofs.Named.{after}
use Rattle.study.proofs.values.point_of.Given as goal

abbrev pub invariant-loop-i : goal.invariant-loop-i
invariant-loop-i g l =
    let rank = g.C.Chain.order.rank l.chain in
    (length l.point ≡ 8) × (drop l.i l.point ≡ replicate (8 - l.i) 0) × (after (take l.i l.point) (ranks_from rank l.sizes l.i (drop l.i l.values)) ≡ ranks_from rank l.sizes 0 l.values)
