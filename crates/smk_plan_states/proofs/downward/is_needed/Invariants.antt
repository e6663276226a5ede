use Rattle.std.proofs.Common.{◌≡◌, drop}
use Rattle.smk_plan_states.specs.Ranking.{is_needed_by_flags}
use Rattle.smk_plan_states.proofs.downward.is_needed.Given as goal

abbrev pub invariant-loop-i : goal.invariant-loop-i
invariant-loop-i l = is_needed_by_flags l.needed l.outputs l.flags ≡ is_needed_by_flags l.needed (drop l.i l.outputs) (drop l.i l.flags)
