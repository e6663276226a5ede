use Rattle.std.proofs.Common.{◌≡◌, drop}
use Rattle.std.specs.List.{list_any}
use Rattle.smk_flow.specs.Flows.{is_protected}
use Rattle.smk_flow_jobs.proofs.recipe.is_protected.Given as goal

abbrev pub invariant-loop-flag : goal.invariant-loop-flag
invariant-loop-flag l = list_any is_protected l.out.flags ≡ list_any is_protected (drop l.flag-index l.out.flags)
