use Rattle.std.proofs.Common.{◌≡◌, take}
use Rattle.std.specs.List.{AllByRecursion}
use Rattle.smk_choose.specs.Reach.{AreNumbered, HasNumber}
use Rattle.smk_choose.proofs.reach.add_paths.Given as goal

abbrev pub invariant-loop-path : goal.invariant-loop-path
invariant-loop-path l = record {
  numbered : AreNumbered l.reach;
  nodes : l.reach.nodes ≡ l.initial.reach.nodes;
  are : AllByRecursion (HasNumber l.reach.paths.items) (take l.path-index l.paths);
}
