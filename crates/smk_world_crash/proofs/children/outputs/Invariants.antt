use Rattle.std.proofs.Common.{◌≡◌, take, map}
use Rattle.std.specs.List.{flat_map}
use Rattle.smk_world_crash.proofs.children.outputs.Given as goal

abbrev pub invariant-loop-item : goal.invariant-loop-item
invariant-loop-item l = l.paths ≡ flat_map (λ item. map (λ out. out.path) item.outs) (take l.item-index l.item-items)
