use Rattle.std.proofs.Common.{◌≡◌, drop}
use Rattle.std.specs.List.{flat_map}
use Rattle.smk_world.specs.Trees.{first}
use Rattle.smk_trigger.specs.Reasons.{held}
use Rattle.smk_trigger.proofs.kept.first_record.Given as goal

abbrev pub invariant-loop-one : goal.invariant-loop-one
invariant-loop-one l = first (flat_map held l.kept) ≡ first (flat_map held (drop l.one-index l.kept))
