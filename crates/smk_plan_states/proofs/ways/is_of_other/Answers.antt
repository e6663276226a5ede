use Rattle.std.proofs.Common.{◌∙◌, ap, not}
use Rattle.std.specs.Prelude.{bytes_eq}
use Rattle.smk_plan.specs.States.{test_some}
use Rattle.smk_plan_states.proofs.ways.is_of_other.Goals as goal

pub returns : goal.returns
returns c = λ J ways.
    c.is_other_name.ensures ∙ ap (test_some (λ p. not (bytes_eq p c.args.name.now))) (c.name_told.ensures J ways)
