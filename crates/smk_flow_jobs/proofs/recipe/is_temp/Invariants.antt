use Rattle.std.proofs.Common.{◌≡◌, drop}
use Rattle.std.specs.List.{list_any}
use Rattle.smk_flow.specs.Flows.{is_temp}
use Rattle.smk_flow_jobs.proofs.recipe.is_temp.Given as goal

abbrev pub invariant-loop-flag : goal.invariant-loop-flag
invariant-loop-flag l = list_any is_temp l.out.flags ≡ list_any is_temp (drop l.flag-index l.out.flags)
