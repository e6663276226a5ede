use Rattle.std.proofs.Common.{◌≡◌, ◌≤◌, false, length}
use Rattle.smk_choose.proofs.Sweeps.{Swept}
use Rattle.smk_choose.proofs.heights.sweep.Given as goal

abbrev pub invariant-loop-path : goal.invariant-loop-path
invariant-loop-path l = record {
  within : l.path ≤ length l.nodes;
  len : length l.heights ≡ length l.nodes;
  swept : Swept l.nodes l.initial.heights l.heights l.path;
  same : l.changed ≡ false → l.heights ≡ l.initial.heights;
}

abbrev pub decreases-loop-path : goal.decreases-loop-path
decreases-loop-path l = l.path
