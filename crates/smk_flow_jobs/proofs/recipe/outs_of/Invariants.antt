use Rattle.std.proofs.Common.{◌≡◌, take, drop, map}
use Rattle.smk_pattern.specs.Reading.{fill}
use Rattle.smk_flow.specs.declared.rule.FlaggedText.{FlaggedText}
use Rattle.smk_flow.specs.Jobs.{filled_out, path_fault}
use Rattle.smk_flow_jobs.proofs.recipe.outs_of.Given as goal

abbrev pub invariant-loop-out : goal.invariant-loop-out
invariant-loop-out l = record {
  outs : l.made ≡ map (filled_out l.binding) (take l.out-index l.outs);
  rest :
      path_fault (map (λ (o : FlaggedText). fill l.binding o.text) l.outs)
      ≡ path_fault (map (λ (o : FlaggedText). fill l.binding o.text) (drop l.out-index l.outs));
}
