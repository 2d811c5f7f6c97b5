use Rattle.std.proofs.Common.{◌≡◌, ◌-◌, Ok, Err, Result, arith, rules}
use Rattle.study.specs.declared.reply.Refusal.{Refusal}
use Rattle.study.specs.declared.seek.Found.{Found}
use Rattle.study.specs.declared.seek.Halt.{Halt}
use Rattle.study.proofs.Searching.{halts, paired, refused, settled, short}
use Rattle.study.proofs.state.Study.search.Goals as goal

pub returns-then-strip-dims : goal.returns-then-strip-dims
returns-then-strip-dims g c =
    short g.M.Chain.order g.M.Map.rules g.met.M.Map.rules_laws c.args.self.now c.args.strip.now c.args.record.now (omega arith)

pub returns-in-Err : goal.returns-in-Err
returns-in-Err g c =
    let told : ◌≡◌ {A = Result Found Refusal} (Err c.refusal.result) (refused (c.left-budget.result - c.left.result) c.seek-sought.result) = search rules in
    halts g.M.Chain.order g.M.Map.rules g.met.M.Map.rules_laws c.args.self.now c.args.strip.now c.args.record.now (omega arith) c.seek-sought.result c.seek-sought.new.self c.seek-sought.new.log c.seek-sought.ensures (c.left-budget.result - c.left.result) (omega (arith, c.seek-sought.ensures.left, c.left-budget.ensures, c.left.ensures))
    c.refusal.result _ (search rules) told

pub returns-in-Ok-Settled : goal.returns-in-Ok-Settled
returns-in-Ok-Settled g c =
    let found : ◌≡◌ {A = Result Found Halt} c.seek-sought.result (Ok (Found.Settled c.in-Ok-Settled.point)) = search rules in
    settled g.M.Chain.order g.M.Map.rules g.met.M.Map.rules_laws c.args.self.now c.args.strip.now c.args.record.now (omega arith) c.seek-sought.result c.seek-sought.new.self c.seek-sought.new.log c.seek-sought.ensures (c.left-budget.result - c.left.result) (omega (arith, c.seek-sought.ensures.left, c.left-budget.ensures, c.left.ensures))
    c.in-Ok-Settled.point c.show.new.strip found c.show.ensures

pub returns-in-Ok-Pair : goal.returns-in-Ok-Pair
returns-in-Ok-Pair g c =
    let found : ◌≡◌ {A = Result Found Halt} c.seek-sought.result (Ok (Found.Pair c.in-Ok-Pair.low c.in-Ok-Pair.high c.in-Ok-Pair.coordinate)) = search rules in
    paired g.M.Chain.order g.M.Map.rules g.met.M.Map.rules_laws c.args.self.now c.args.strip.now c.args.record.now (omega arith) c.seek-sought.result c.seek-sought.new.self c.seek-sought.new.log c.seek-sought.ensures (c.left-budget.result - c.left.result) (omega (arith, c.seek-sought.ensures.left, c.left-budget.ensures, c.left.ensures))
    c.in-Ok-Pair.low c.in-Ok-Pair.high c.in-Ok-Pair.coordinate c.show_pair.new.strip found c.show_pair.ensures
