use Rattle.std.proofs.Common.{◌≡◌, ◌++◌, take, bytes_eq}
use Rattle.std.specs.List.{flat_map}
use Rattle.smk_chain.specs.Derive.{distinct}
use Rattle.smk_chain_sight.specs.Reaching.{AreKept, path_of}
use Rattle.smk_chain_sight.proofs.reaching.add_wants.Given as goal

abbrev pub invariant-loop-want : goal.invariant-loop-want
invariant-loop-want l = record {
  kept : AreKept l.found;
  added : l.found.paths.items ≡ distinct bytes_eq (l.fn.found.paths.items ++ flat_map path_of (take l.want-index l.wants));
}
