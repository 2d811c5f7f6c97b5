use Rattle.std.proofs.Common.{ap, ◌∙◌}
use Rattle.study.specs.History.{whole_box}
use Rattle.study.proofs.Lawfully.{law_of_runs}
use Rattle.study.proofs.state.Study.new.Goals as goal

pub returns : goal.returns
returns g c =
    let r = g.M.Map.rules in
    record {
      study = ap (λ b. record { map = c.args.map; left = c.args.allowance; bounds = b }) (c.whole_box-bounds.ensures ∙ ap whole_box c.sizes.ensures.value);
      law = law_of_runs g.M.Chain.order r g.met.M.Map.rules_laws c.args.map c.args.allowance;
    }
