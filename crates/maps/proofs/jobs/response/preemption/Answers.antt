use Rattle.std.proofs.Common.{◌≡◌, ◌*◌, ◌∙◌, arith, rules}
use Rattle.std.specs.List.{sum_by}
use Rattle.std.proofs.iter.runs.Made.{chains}
use Rattle.maps.proofs.Slices.{preemption_most, preemption_sum}
use Rattle.maps.specs.Response.{releases}
use Rattle.maps.proofs.jobs.response.preemption.Goals as goal

pub returns : goal.returns
returns c =
    let summed : c.sum.result ≡ sum_by (λ j. releases c.args.span j.period * j.run) c.args.higher.now = search (rules, chains) in
    let value = summed ∙ preemption_sum c.args.higher.now c.args.span in
    record { value = value; bound = omega (arith, value, preemption_most c.args.higher.now c.args.span (omega arith)) }
