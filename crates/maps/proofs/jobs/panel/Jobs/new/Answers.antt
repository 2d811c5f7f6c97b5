use Rattle.std.proofs.Common.{◌≡◌, false, is_ok, Err, vec_items, vec_len, sym, subst, arith, rules}
use Rattle.chains.specs.Making.{Made}
use Rattle.maps.specs.JobLaws.{longest_some}
use Rattle.maps.specs.declared.jobs.faults.JobsFault.TheVariants.{Step}
use Rattle.maps.proofs.JobsMonotone.{jobs_monotone}
use Rattle.maps.proofs.PanelMade.{refused_ticks}
use Rattle.maps.proofs.jobs.panel.Jobs.new.Goals as goal

pub returns-in_err-ticks-clause-made : goal.returns-in_err-ticks-clause-made
returns-in_err-ticks-clause-made c =
    let none : is_ok c.new.result ≡ false = search rules in
    let given : c.from_residual.result ≡ Err Step = search rules in
    let refused = refused_ticks c.args.step c.longest-size.result (vec_len c.args.jobs) _ c.new.result (omega (arith, longest_some c.as_slice.result.now, c.longest-size.ensures.value)) c.longest-size.ensures.bound c.new.ensures none in
    subst (Made _ _) (sym given) refused

pub returns-clause-monotone : goal.returns-clause-monotone
returns-clause-monotone c = jobs_monotone (vec_items c.args.jobs)
