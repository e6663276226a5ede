use Rattle.std.proofs.Common.{◌≡◌, take, drop}
use Rattle.smk_pattern.specs.Searching.{now_of}
use Rattle.smk_flow.specs.Targets.{all_paths, first_bad}
use Rattle.smk_flow_jobs.proofs.targeting.paths_of_all.Given as goal

abbrev pub invariant-loop-word : goal.invariant-loop-word
invariant-loop-word l = record {
  paths : l.made ≡ all_paths l.flow (now_of (take l.word-index l.words));
  rest : first_bad l.flow (now_of l.words) ≡ first_bad l.flow (now_of (drop l.word-index l.words));
}
