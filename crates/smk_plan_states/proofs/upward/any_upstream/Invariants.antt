use Rattle.std.proofs.Common.{◌≡◌, drop}
use Rattle.std.specs.List.{list_any}
use Rattle.smk_plan_states.specs.Ranking.{is_upstream}
use Rattle.smk_plan_states.proofs.upward.any_upstream.Given as goal

abbrev pub invariant-loop-input : goal.invariant-loop-input
invariant-loop-input l = list_any (is_upstream l.ranks l.origins) l.inputs ≡ list_any (is_upstream l.ranks l.origins) (drop l.input-index l.inputs)
