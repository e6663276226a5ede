use Rattle.std.proofs.Common.{◌≡◌, drop}
use Rattle.std.specs.List.{list_any, zip}
use Rattle.smk_plan_states.specs.Ranking.{is_held_by}
use Rattle.smk_plan_states.proofs.holding.is_any_held.Given as goal

abbrev pub invariant-loop-i : goal.invariant-loop-i
invariant-loop-i l =
    list_any (is_held_by l.needed) (zip l.lines (zip l.ranks (zip l.running (zip l.used l.outputs))))
    ≡ list_any (is_held_by l.needed) (zip (drop l.i l.lines) (zip (drop l.i l.ranks) (zip (drop l.i l.running) (zip (drop l.i l.used) (drop l.i l.outputs)))))
