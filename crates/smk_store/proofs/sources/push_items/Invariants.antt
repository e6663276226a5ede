use Rattle.std.proofs.Common.{◌≡◌, ◌++◌, drop}
use Rattle.std.specs.List.{flat_map, zip}
use Rattle.smk_world.specs.declared.recipe.Item.{Item}
use Rattle.smk_store.specs.Sources.{sources_of}
use Rattle.smk_store.proofs.sources.push_items.Given as goal

abbrev pub invariant-loop-item : goal.invariant-loop-item
invariant-loop-item l =
    l.found ++ sources_of l.p (zip (flat_map (λ (item : Item). item.paths) (drop l.item-index l.inputs)) l.rest)
    ≡ l.initial.found ++ sources_of l.p (zip (flat_map (λ (item : Item). item.paths) l.inputs) l.stamps)
