use Rattle.std.proofs.Common.{◌≡◌, ◌++◌, drop, map}
use Rattle.smk_trigger.specs.declared.reason.Reason.TheVariants.{Upstream}
use Rattle.smk_plan_states.specs.Ranking.{upstream_paths}
use Rattle.smk_plan_states.proofs.reasons.push_upstreams.Given as goal

abbrev pub invariant-loop-input : goal.invariant-loop-input
invariant-loop-input l =
    l.found ++ map Upstream (upstream_paths l.ranks l.origins (drop l.input-index l.inputs)) ≡ l.initial.found ++ map Upstream (upstream_paths l.ranks l.origins l.inputs)
