use Rattle.std.proofs.Common.{◌≡◌, ◌++◌, take}
use Rattle.std.specs.List.{flat_map}
use Rattle.smk_chain.specs.declared.jobs.Jobs.{Jobs}
use Rattle.smk_plan_states.specs.Lines.{over_spots}
use Rattle.smk_plan_states.specs.Ways.{AreWays}
use Rattle.smk_plan_states.proofs.awaits.push_items_over.Given as goal

abbrev pub invariant-loop-item : goal.invariant-loop-item
invariant-loop-item l = (J : Jobs) → AreWays J l.ways → l.found ≡ l.initial.found ++ flat_map (λ item. flat_map (over_spots J) item.paths) (take l.item-index l.items)
