use Rattle.std.proofs.Common.{◌≡◌, ◌++◌, drop}
use Rattle.smk_flow.specs.Jobs.{flagged, path_fault}
use Rattle.smk_flow_jobs.proofs.recipe.add_flagged.Given as goal

abbrev pub invariant-loop-out : goal.invariant-loop-out
invariant-loop-out l = record {
  paths : l.made ++ flagged l.binding l.flag (drop l.out-index l.item.outs) ≡ l.initial.made ++ flagged l.binding l.flag l.item.outs;
  rest : path_fault (flagged l.binding l.flag l.item.outs) ≡ path_fault (flagged l.binding l.flag (drop l.out-index l.item.outs));
}
