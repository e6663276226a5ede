use Rattle.std.proofs.Common.{◌≡◌, drop}
use Rattle.smk_world.specs.Trees.{first}
use Rattle.smk_plan_table.specs.Parts.{above_in}
use Rattle.smk_plan_table.proofs.room.first_of_job.Given as goal

abbrev pub invariant-loop-bound : goal.invariant-loop-bound
invariant-loop-bound l = first (above_in l.bounds l.job) ≡ first (above_in (drop l.bound-index l.bounds) l.job)
