use Rattle.std.proofs.Common.{◌≡◌, drop}
use Rattle.smk_plan_states.specs.Ranking.{is_kept_by}
use Rattle.smk_plan_states.proofs.upward.is_kept.Given as goal

abbrev pub invariant-loop-i : goal.invariant-loop-i
invariant-loop-i l = is_kept_by l.outputs l.flags ≡ is_kept_by (drop l.i l.outputs) (drop l.i l.flags)
