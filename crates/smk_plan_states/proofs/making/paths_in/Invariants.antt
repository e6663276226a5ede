use Rattle.std.proofs.Common.{◌≡◌, take}
use Rattle.std.specs.List.{flat_map}
use Rattle.smk_plan_states.specs.Rows.{lent}
use Rattle.smk_plan_states.proofs.making.paths_in.Given as goal

abbrev pub invariant-loop-item : goal.invariant-loop-item
invariant-loop-item l = lent l.paths ≡ flat_map (λ item. item.paths) (take l.item-index l.items)
