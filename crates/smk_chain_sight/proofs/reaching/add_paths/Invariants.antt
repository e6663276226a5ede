use Rattle.std.proofs.Common.{◌≡◌, ◌++◌, take, bytes_eq}
use Rattle.smk_chain.specs.Derive.{distinct}
use Rattle.smk_chain_sight.specs.Reaching.{AreKept}
use Rattle.smk_chain_sight.proofs.reaching.add_paths.Given as goal

abbrev pub invariant-loop-path : goal.invariant-loop-path
invariant-loop-path l = record {
  kept : AreKept l.found;
  added : l.found.paths.items ≡ distinct bytes_eq (l.fn.found.paths.items ++ take l.path-index l.paths);
}
