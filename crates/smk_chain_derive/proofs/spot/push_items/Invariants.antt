use Rattle.std.proofs.Common.{◌≡◌, ◌++◌, map, take}
use Rattle.std.specs.List.{flat_map}
use Rattle.smk_chain_derive.specs.Clashes.{output_of}
use Rattle.smk_chain_derive.proofs.spot.push_items.Given as goal

abbrev pub invariant-loop-item : goal.invariant-loop-item
invariant-loop-item l = l.found ≡ l.initial.found ++ flat_map (λ item. map output_of item.outs) (take l.item-index l.items)
