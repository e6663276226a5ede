use Rattle.std.proofs.Common.{◌≡◌, drop}
use Rattle.std.specs.List.{list_any, zip}
use Rattle.smk_plan_states.specs.Ranking.{is_lacking}
use Rattle.smk_plan_states.proofs.downward.any_lacking.Given as goal

abbrev pub invariant-loop-i : goal.invariant-loop-i
invariant-loop-i l = list_any is_lacking (zip l.ranks l.outputs) ≡ list_any is_lacking (zip (drop l.i l.ranks) (drop l.i l.outputs))
