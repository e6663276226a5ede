use Rattle.std.proofs.Common.{◌∙◌}
use Rattle.smk_plan_live.proofs.new.whole_makers.Goals as goal

pub returns : goal.returns
returns c = c.of.ensures ∙ c.in_ok-flags.ensures.items ∙ c.as_slice.ensures ∙ c.in_ok-told.ensures
