use Rattle.std.proofs.Common.{◌≡◌, drop}
use Rattle.std.specs.List.{list_any}
use Rattle.smk_plan_states.specs.Spots.{spot_in}
use Rattle.smk_plan_states.specs.Ranking.{input_opens}
use Rattle.smk_plan_states.proofs.opening.any_input_opens.Given as goal

abbrev pub invariant-loop-input : goal.invariant-loop-input
invariant-loop-input l =
    list_any (input_opens l.ranks (spot_in l.origins l.rows)) l.inputs ≡ list_any (input_opens l.ranks (spot_in l.origins l.rows)) (drop l.input-index l.inputs)
