use Rattle.std.proofs.Common.{◌≡◌, ◌+◌, ◌++◌, length, take, drop}
use Rattle.study.specs.Values.{written}
use Rattle.study.proofs.values.write.Given as goal

abbrev pub invariant-loop-i : goal.invariant-loop-i
invariant-loop-i g l =
    let member = g.C.Chain.order.member l.chain in
    (length l.strip ≡ length l.initial.strip) × (take (l.at + l.i) l.strip ++ written member (drop l.i l.ranks) (drop (l.at + l.i) l.strip) ≡ take l.at l.initial.strip ++ written member l.ranks (drop l.at l.initial.strip))
