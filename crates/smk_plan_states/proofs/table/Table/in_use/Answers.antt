use Rattle.std.proofs.Common.{◌∙◌}
use Rattle.smk_plan_states.proofs.UsedBy.{used_are}
use Rattle.smk_plan_states.proofs.table.Table.in_use.Goals as goal

pub returns : goal.returns
returns c = λ at jobs told running.
    used_are at jobs at.settings.targets told.served c.as_slice.result.now c.as_slice-2.result.now c.args.running.now c.in_ok-used.used.items
    (c.as_slice.ensures ∙ told.told.lines) (c.as_slice-2.ensures ∙ told.told.origins) running c.in_ok-used.ensures.each c.in_ok-used.ensures.used
