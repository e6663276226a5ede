use Rattle.std.proofs.Common.{◌≡◌, take, map}
use Rattle.std.specs.List.{flat_map}
use Rattle.smk_plan_look.proofs.needs.inputs_in.Given as goal

abbrev pub invariant-loop-item : goal.invariant-loop-item
invariant-loop-item l = map (λ p. p.now) l.paths ≡ flat_map (λ item. item.paths) (take l.item-index l.items)
