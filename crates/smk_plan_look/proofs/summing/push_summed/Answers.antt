use Rattle.std.proofs.Common.{ap, ◌∙◌}
use Rattle.std.specs.BTreeSet.{contains_text}
use Rattle.smk_plan_look.specs.Putting.{with_sum}
use Rattle.smk_plan_look.proofs.Placed.{pushed}
use Rattle.smk_plan_look.proofs.summing.push_summed.Goals as goal

pub returns : goal.returns
returns c = λ later.
    pushed (contains_text c.args.needed.now) c.args.found.now _ c.args.sight _ c.args.sums.now _ _ c.is_among-is_needed.ensures c.in_ok-push.ensures.ok (c.with_sum.ensures ∙ ap (with_sum c.args.sight) c.next_sum.ensures) c.sums_after.ensures later
