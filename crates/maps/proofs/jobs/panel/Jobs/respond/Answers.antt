use Rattle.std.proofs.Common.{◌≡◌, ◌+◌, ◌-◌, ◌<◌, ◌≤◌, length, get_or, take, drop, refl, Some, sym, ap, ◌∙◌, ap₂, arith, rules}
use Rattle.std.specs.List.{slice_get}
use Rattle.std.proofs.lemmas.Option.{slice_get_past, slice_get_read}
use Rattle.std.proofs.lemmas.Bool.Decides.{nat_tests}
use Rattle.maps.specs.Response.{blocking, of_job, preemption}
use Rattle.points.specs.Points.{rank_of}
use Rattle.maps.proofs.Slices.{response_at, rest_of}
use Rattle.maps.proofs.jobs.panel.Jobs.respond.Goals as goal

found : (c : goal.After-min) → slice_get c.args.self.now.jobs.items c.args.i ≡ Some c.in-Some.job.now
found c =
    let jobs = c.args.self.now.jobs.items in
    let job = c.in-Some.job.now in
    let within : c.args.i < length jobs = grind (arith, nat_tests, c.in-Some.ensures.lookup.0) in
    slice_get_read jobs (length jobs) c.args.i job refl within (c.in-Some.ensures.lookup.1 ∙ ap (λ js. get_or js c.args.i job) c.deref.ensures.value)

pub returns : goal.returns
returns c =
    let jobs = c.args.self.now.jobs.items in
    let ranks = c.args.ranks.now in
    let i = c.args.i in
    let lower = ap (λ js. take (length js - (i + 1)) (drop (i + 1) js)) c.deref-2.ensures.value ∙ rest_of jobs (length jobs) (i + 1) (omega arith) in
    let blocked = c.blocking-blocked.ensures ∙ ap₂ blocking lower (rest_of ranks 8 (i + 1) (omega arith)) in
    let preempted : c.preemption-preempted.result ≡ preemption (take i jobs) (rank_of ranks i) = search rules in
    let answer = response_at jobs ranks i c.in-Some.job.now (found c) in
    omega (arith, blocked, preempted, answer, c.min.ensures, c.from.ensures, c.from-2.ensures, c.from-3.ensures)

pub returns-in_default : goal.returns-in_default
returns-in_default c =
    let past : length c.args.self.now.jobs.items ≤ c.args.i = grind (arith, nat_tests) in
    sym (ap (of_job _ 0) (slice_get_past c.args.self.now.jobs.items c.args.i past))
