use Rattle.std.proofs.Common.{◌≡◌, drop}
use Rattle.std.specs.List.{list_any}
use Rattle.smk_plan_states.specs.Spots.{spot_in}
use Rattle.smk_plan_states.specs.Ranking.{gathered_opens}
use Rattle.smk_plan_states.proofs.opening.any_gathered_opens.Given as goal

abbrev pub invariant-loop-gathered : goal.invariant-loop-gathered
invariant-loop-gathered l =
    list_any (gathered_opens l.ranks (spot_in l.origins l.rows)) l.gathers ≡ list_any (gathered_opens l.ranks (spot_in l.origins l.rows)) (drop l.gathered-index l.gathers)
