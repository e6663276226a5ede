use Rattle.std.proofs.Common.{◌∙◌}
use Rattle.std.specs.BTreeSet.{contains_text}
use Rattle.smk_plan_states.proofs.LookUps.{wanted_is}
use Rattle.smk_plan_states.proofs.making.output_of.Goals as goal

pub returns : goal.returns
returns c = λ J asked j ways wants temps.
    let wanted = c.is_wanted.ensures ∙ wanted_is J asked j c.args.wants.now (λ q. contains_text c.args.temps.now q) c.args.feeds c.args.path.now wants temps in
    λ i. record { link = c.link_to.ensures J ways i; wanted = wanted i }
