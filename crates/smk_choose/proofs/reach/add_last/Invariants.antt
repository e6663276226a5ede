use Rattle.std.proofs.Common.{◌≡◌, ◌≤◌, ◌-◌, length}
use Rattle.smk_choose.specs.Told.{told_by}
use Rattle.smk_choose.specs.Reach.{AreNumbered, Grows, AreFlagged}
use Rattle.smk_choose.proofs.reach.add_last.Given as goal

abbrev pub invariant-nodes : goal.invariant-nodes
invariant-nodes l = record {
  numbered : AreNumbered l.reach;
  grows : Grows l.initial.reach l.reach;
  known : AreFlagged (told_by l.sources) l.reach;
  paths : l.reach.paths ≡ l.initial.reach.paths;
  within : l.end ≤ length l.reach.paths.items;
}

abbrev pub decreases-nodes : goal.decreases-nodes
decreases-nodes l = l.end - length l.reach.nodes.items
