use Rattle.std.proofs.Common.{◌≡◌, drop}
use Rattle.smk_plan_table.specs.Parts.{above_in}
use Rattle.smk_plan_table.proofs.suspects.is_above.Given as goal

abbrev pub invariant-loop-bound : goal.invariant-loop-bound
invariant-loop-bound l = above_in l.bounds l.job ≡ above_in (drop l.bound-index l.bounds) l.job
