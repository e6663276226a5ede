use Rattle.std.proofs.Common.{◌≡◌, take, map}
use Rattle.smk_flow.specs.Jobs.{filled_param}
use Rattle.smk_flow_jobs.proofs.recipe.params_of.Given as goal

abbrev pub invariant-loop-value : goal.invariant-loop-value
invariant-loop-value l = l.made ≡ map (filled_param l.binding) (take l.value-index l.values)
