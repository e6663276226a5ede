use Rattle.std.proofs.Common.{◌≡◌, drop}
use Rattle.std.specs.List.{list_any, zip}
use Rattle.smk_plan_states.specs.Ranking.{is_lent_lacking}
use Rattle.smk_plan_states.proofs.holding.may_be_held.Given as goal

abbrev pub invariant-loop-i : goal.invariant-loop-i
invariant-loop-i l =
    list_any is_lent_lacking (zip l.ranks (zip l.used l.outputs))
    ≡ list_any is_lent_lacking (zip (drop l.i l.ranks) (zip (drop l.i l.used) (drop l.i l.outputs)))
