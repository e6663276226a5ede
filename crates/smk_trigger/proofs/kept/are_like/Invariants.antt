use Rattle.std.proofs.Common.{◌≡◌, drop}
use Rattle.std.specs.List.{list_all, flat_map}
use Rattle.smk_trigger.specs.Reasons.{held, same_job}
use Rattle.smk_trigger.proofs.kept.are_like.Given as goal

abbrev pub invariant-loop-one : goal.invariant-loop-one
invariant-loop-one l = list_all (same_job l.earlier) (flat_map held l.kept) ≡ list_all (same_job l.earlier) (flat_map held (drop l.one-index l.kept))
