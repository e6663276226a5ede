use Rattle.std.proofs.Common.{◌≡◌, ◌++◌, drop, map}
use Rattle.std.specs.List.{filter}
use Rattle.smk_plan_states.specs.Spots.{spot_in}
use Rattle.smk_plan_states.specs.Ranking.{is_new_awaited}
use Rattle.smk_plan_states.proofs.ready.new_in.Given as goal

abbrev pub invariant-loop-one : goal.invariant-loop-one
invariant-loop-one l =
    l.found ++ map (λ a. a.path) (filter (is_new_awaited l.ranks (spot_in l.origins l.rows)) (drop l.one-index l.awaited))
    ≡ map (λ a. a.path) (filter (is_new_awaited l.ranks (spot_in l.origins l.rows)) l.awaited)
