use Rattle.std.proofs.Common.{◌≡◌, take, drop, map}
use Rattle.std.specs.List.{flat_map}
use Rattle.smk_pattern.specs.Reading.{fill}
use Rattle.smk_flow.specs.declared.rule.InPart.{InPart}
use Rattle.smk_flow.specs.Jobs.{declared_item, path_fault}
use Rattle.smk_flow_jobs.proofs.recipe.in_items.Given as goal

abbrev pub invariant-loop-item : goal.invariant-loop-item
invariant-loop-item l = record {
  items : l.made ≡ map (declared_item l.binding) (take l.item-index l.items);
  rest :
      path_fault (flat_map (λ (i : InPart). map (fill l.binding) i.texts) l.items)
      ≡ path_fault (flat_map (λ (i : InPart). map (fill l.binding) i.texts) (drop l.item-index l.items));
}
