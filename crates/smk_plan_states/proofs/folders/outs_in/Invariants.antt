use Rattle.std.proofs.Common.{◌≡◌, take, map}
use Rattle.std.specs.List.{flat_map}
use Rattle.smk_plan_states.proofs.folders.outs_in.Given as goal

abbrev pub invariant-loop-item : goal.invariant-loop-item
invariant-loop-item l = map (λ out. out.now) l.outs ≡ flat_map (λ item. item.outs) (take l.item-index l.items)
