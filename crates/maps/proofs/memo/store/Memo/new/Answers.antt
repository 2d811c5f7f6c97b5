use Rattle.std.proofs.Common.{ap, length, arith}
use Rattle.maps.specs.MemoLaws.{empty_monotone}
use Rattle.maps.proofs.memo.store.Memo.new.Goals as goal

pub returns-clause-monotone : goal.returns-clause-monotone
returns-clause-monotone g c =
    empty_monotone g.M.Map.rules (record { map = c.args.map; entries = c.new.result; most = omega (arith, ap length c.new.ensures) }) c.new.ensures
