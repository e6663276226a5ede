use Rattle.std.proofs.Common.{◌≡◌, length}
use Rattle.std.specs.List.{flat_map}
use Rattle.smk_trigger.specs.Reasons.{held, all_same}
use Rattle.smk_trigger.proofs.kept.are_one_job.Given as goal

abbrev pub invariant-loop-one : goal.invariant-loop-one
invariant-loop-one l = all_same (flat_map held l.kept) ≡ all_same (flat_map held l.rest)

abbrev pub decreases-loop-one : goal.decreases-loop-one
decreases-loop-one l = length l.rest
