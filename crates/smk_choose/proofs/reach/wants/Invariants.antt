use Rattle.std.proofs.Common.{◌≡◌, map, take}
use Rattle.smk_choose.specs.Readings.{filled_by}
use Rattle.smk_choose.specs.Reach.{AreNumbered, Grows, AreWants}
use Rattle.smk_choose.proofs.reach.wants.Given as goal

abbrev pub invariant-loop-pattern : goal.invariant-loop-pattern
invariant-loop-pattern l = record {
  numbered : AreNumbered l.reach;
  grows : Grows l.initial.reach l.reach;
  nodes : l.reach.nodes ≡ l.initial.reach.nodes;
  are : AreWants l.reach.paths.items l.wants (map (filled_by l.binding) (take l.pattern-index l.patterns));
}
