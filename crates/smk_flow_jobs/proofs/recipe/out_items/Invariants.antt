use Rattle.std.proofs.Common.{◌≡◌, take, drop, map}
use Rattle.std.specs.List.{flat_map}
use Rattle.smk_pattern.specs.Reading.{fill}
use Rattle.smk_flow.specs.declared.rule.FlaggedText.{FlaggedText}
use Rattle.smk_flow.specs.declared.rule.OutPart.{OutPart}
use Rattle.smk_flow.specs.Jobs.{filled_outs, path_fault}
use Rattle.smk_flow_jobs.proofs.recipe.out_items.Given as goal

abbrev pub invariant-loop-item : goal.invariant-loop-item
invariant-loop-item l = record {
  items : l.made ≡ map (filled_outs l.binding) (take l.item-index l.items);
  rest :
      path_fault (flat_map (λ (i : OutPart). map (λ (o : FlaggedText). fill l.binding o.text) i.outs) l.items)
      ≡ path_fault (flat_map (λ (i : OutPart). map (λ (o : FlaggedText). fill l.binding o.text) i.outs) (drop l.item-index l.items));
}
