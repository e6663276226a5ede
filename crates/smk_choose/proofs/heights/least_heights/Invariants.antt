use Rattle.std.proofs.Common.{◌≡◌, ℕ, None, length}
use Rattle.smk_choose.specs.Heights.{height_at, IsSound, IsComplete}
use Rattle.smk_choose.proofs.heights.least_heights.Given as goal

abbrev pub invariant-loop-node : goal.invariant-loop-node
invariant-loop-node l = record {
  len : length l.heights.items ≡ l._node-index;
  none : (q : ℕ) → height_at l.heights.items q ≡ None;
}

abbrev pub invariant-loop-round : goal.invariant-loop-round
invariant-loop-round l = record {
  len : length l.heights.items ≡ length l.nodes;
  sound : IsSound l.nodes l.heights.items;
  complete : IsComplete l.nodes l._round l.heights.items;
}
