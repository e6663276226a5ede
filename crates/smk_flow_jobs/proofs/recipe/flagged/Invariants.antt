use Rattle.std.proofs.Common.{◌≡◌, ◌++◌, drop}
use Rattle.std.specs.List.{flat_map}
use Rattle.smk_flow.specs.declared.rule.OutPart.{OutPart}
use Rattle.smk_flow.specs.Jobs.{flagged, path_fault}
use Rattle.smk_flow_jobs.proofs.recipe.flagged.Given as goal

abbrev pub invariant-loop-item : goal.invariant-loop-item
invariant-loop-item l = record {
  paths :
      l.made ++ flagged l.binding l.flag (flat_map (λ (i : OutPart). i.outs) (drop l.item-index l.items))
      ≡ flagged l.binding l.flag (flat_map (λ (i : OutPart). i.outs) l.items);
  rest :
      path_fault (flagged l.binding l.flag (flat_map (λ (i : OutPart). i.outs) l.items))
      ≡ path_fault (flagged l.binding l.flag (flat_map (λ (i : OutPart). i.outs) (drop l.item-index l.items)));
}
