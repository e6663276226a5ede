use Rattle.std.proofs.Common.{◌≡◌, ◌++◌, take, bytes_eq}
use Rattle.std.specs.List.{flat_map}
use Rattle.smk_chain.specs.Derive.{distinct}
use Rattle.smk_chain_sight.specs.Reaching.{AreKept, paths_by}
use Rattle.smk_chain_sight.proofs.reaching.add_jobs.Given as goal

abbrev pub invariant-loop-job : goal.invariant-loop-job
invariant-loop-job l = record {
  kept : AreKept l.found;
  added : l.found.paths.items ≡ distinct bytes_eq (l.fn.found.paths.items ++ flat_map (paths_by l.flow l.lists) (take l.job-index l.jobs));
}
