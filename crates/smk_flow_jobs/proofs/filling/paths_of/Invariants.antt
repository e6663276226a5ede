use Rattle.std.proofs.Common.{◌≡◌, take, drop, map}
use Rattle.smk_pattern.specs.Reading.{fill}
use Rattle.smk_flow.specs.Jobs.{path_fault}
use Rattle.smk_flow_jobs.proofs.filling.paths_of.Given as goal

abbrev pub invariant-loop-text : goal.invariant-loop-text
invariant-loop-text l = record {
  paths : l.paths ≡ map (fill l.binding) (take l.text-index l.texts);
  rest : path_fault (map (fill l.binding) l.texts) ≡ path_fault (map (fill l.binding) (drop l.text-index l.texts));
}
