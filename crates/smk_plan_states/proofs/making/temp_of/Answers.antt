use Rattle.std.proofs.Common.{◌∙◌}
use Rattle.smk_plan_states.proofs.making.temp_of.Goals as goal

pub returns : goal.returns
returns c = λ J asked ways wants.
    let target = c.has_path.ensures ∙ wants.targets c.args.path.now in
    λ i. record { link = c.link_to.ensures J ways i; target = target i }
