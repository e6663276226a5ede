use Rattle.std.proofs.Common.{◌≡◌, drop}
use Rattle.smk_world.specs.Trees.{first}
use Rattle.smk_plan_table.specs.Parts.{shown, all_above}
use Rattle.smk_plan_table.proofs.room.first_above.Given as goal

abbrev pub invariant-loop-job : goal.invariant-loop-job
invariant-loop-job l = first (all_above l.bounds (shown l.jobs)) ≡ first (all_above l.bounds (shown (drop l.job-index l.jobs)))
