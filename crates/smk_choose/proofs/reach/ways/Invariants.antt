use Rattle.std.proofs.Common.{◌≡◌}
use Rattle.smk_choose.specs.Reach.{AreNumbered, Grows, AreMade}
use Rattle.smk_choose.proofs.reach.ways.Given as goal

abbrev pub invariant-loop-making : goal.invariant-loop-making
invariant-loop-making l = record {
  numbered : AreNumbered l.reach;
  grows : Grows l.initial.reach l.reach;
  nodes : l.reach.nodes ≡ l.initial.reach.nodes;
  are : AreMade l.readings l.reach.paths.items l.ways l.yielded;
}
