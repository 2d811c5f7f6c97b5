use Rattle.std.proofs.Common.{◌≡◌, Ok, Err, Result, List, ℕ, ◌∙◌, rules, arith}
use Rattle.points.specs.declared.Fault.{Fault}
use Rattle.bisection.specs.Machine.{levels_of}
use Rattle.bisection.proofs.Steps.{up_agrees, up_within}
use Rattle.study.proofs.Judging.{newest}
use Rattle.study.proofs.Seeking.{begins, ends_full, ends_spent}
use Rattle.study.proofs.Turns.{turn_fault, turn_on, turn_pair, turn_settled}
use Rattle.study.proofs.state.Study.seek.Goals as goal

pub questions-init : goal.questions-init
questions-init g c =
    begins g.M.Chain.order g.M.Map.rules c.args.self.now c.args.log.now g.met.M.Map.rules_laws c.dims.result (levels_of c.open-levels.result) c.dims.ensures c.open-levels.ensures

pub levels-smaller : goal.levels-smaller
levels-smaller g c =
    let within = up_within c.levels.k (levels_of c.levels.levels) (newest c.questions.log c.questions.made c.question-point.result c.in-Ok.answer) c.in-Up.ensures in
    omega (arith, within, c.levels.levels.most)

pub levels-preserved : goal.levels-preserved
levels-preserved g c =
    let e = newest c.questions.log c.questions.made c.question-point.result c.in-Ok.answer in
    let within = up_within c.levels.k (levels_of c.levels.levels) e c.in-Up.ensures in
    (c.levels.invariant.0, omega (arith, within, c.levels.levels.most), up_agrees c.levels.k (levels_of c.levels.levels) e c.levels.invariant.2 c.in-Up.ensures)

pub questions-preserved : goal.questions-preserved
questions-preserved g c =
    let told : ◌≡◌ {A = Result (List ℕ) Fault} (Ok c.in-Ok.answer) c.put.result = search rules in
    turn_on g.M.Chain.order g.M.Map.rules c.args.self.now c.args.log.now (levels_of c.questions.levels) c.questions.made c.questions.self c.questions.log c.questions.invariant c.if-self-eq0.false c.if-at-log.false c.question-point.result c.question-point.ensures c.put.new.self c.put.ensures.leads c.put.ensures.same c.put.ensures.same_order
    c.in-Ok.answer (told ∙ c.put.ensures.answer) c.levels.k (levels_of c.levels.levels) c.levels.invariant.0 c.levels.invariant.2
    c.in-Move.bounds (levels_of c.reopen.new.self) c.in-Move.ensures c.reopen.ensures

pub returns-then-self-eq0 : goal.returns-then-self-eq0
returns-then-self-eq0 g c =
    ends_spent g.M.Chain.order g.M.Map.rules c.args.self.now c.args.log.now (levels_of c.questions.levels) c.questions.made c.questions.self c.questions.log c.questions.invariant c.if-self-eq0.true

pub returns-then-at-log : goal.returns-then-at-log
returns-then-at-log g c =
    ends_full g.M.Chain.order g.M.Map.rules c.args.self.now c.args.log.now (levels_of c.questions.levels) c.questions.made c.questions.self c.questions.log c.questions.invariant (omega arith) c.if-at-log.true

pub returns-in-Err : goal.returns-in-Err
returns-in-Err g c =
    let told : ◌≡◌ {A = Result (List ℕ) Fault} (Err c.in-Err.fault) c.put.result = search rules in
    turn_fault g.M.Chain.order g.M.Map.rules c.args.self.now c.args.log.now (levels_of c.questions.levels) c.questions.made c.questions.self c.questions.log c.questions.invariant c.if-self-eq0.false c.if-at-log.false c.question-point.result c.question-point.ensures c.put.new.self c.put.ensures.leads c.put.ensures.same c.put.ensures.same_order
    c.in-Err.fault (told ∙ c.put.ensures.answer)

pub returns-in-Settled : goal.returns-in-Settled
returns-in-Settled g c =
    let told : ◌≡◌ {A = Result (List ℕ) Fault} (Ok c.in-Ok.answer) c.put.result = search rules in
    turn_settled g.M.Chain.order g.M.Map.rules c.args.self.now c.args.log.now (levels_of c.questions.levels) c.questions.made c.questions.self c.questions.log c.questions.invariant c.if-self-eq0.false c.if-at-log.false c.question-point.result c.question-point.ensures c.put.new.self c.put.ensures.leads c.put.ensures.same c.put.ensures.same_order
    c.in-Ok.answer (told ∙ c.put.ensures.answer) c.levels.k (levels_of c.levels.levels) c.levels.invariant.0 c.levels.invariant.2 c.in-Settled.ensures

pub returns-in-Pair : goal.returns-in-Pair
returns-in-Pair g c =
    let told : ◌≡◌ {A = Result (List ℕ) Fault} (Ok c.in-Ok.answer) c.put.result = search rules in
    turn_pair g.M.Chain.order g.M.Map.rules c.args.self.now c.args.log.now (levels_of c.questions.levels) c.questions.made c.questions.self c.questions.log c.questions.invariant c.if-self-eq0.false c.if-at-log.false c.question-point.result c.question-point.ensures c.put.new.self c.put.ensures.leads c.put.ensures.same c.put.ensures.same_order
    c.in-Ok.answer (told ∙ c.put.ensures.answer) c.levels.k (levels_of c.levels.levels) c.levels.invariant.0 c.levels.invariant.2
    c.in-Pair.low c.in-Pair.high c.counted_from_1.result c.counted_from_1.ensures c.in-Pair.ensures
