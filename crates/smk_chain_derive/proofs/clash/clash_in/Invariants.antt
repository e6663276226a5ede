use Rattle.std.proofs.Common.{◌≡◌, ℕ, List, [], take, drop}
use Rattle.std.specs.BTreeSet.{contains_text}
use Rattle.smk_world.specs.Trees.{among, first}
use Rattle.smk_chain_derive.specs.Clashes.{clashes_in, spot_paths}
use Rattle.smk_chain_derive.proofs.clash.clash_in.Given as goal

abbrev pub invariant-loop-number : goal.invariant-loop-number
invariant-loop-number l = record {
  taken : (q : List ℕ) → contains_text l.taken q ≡ among (spot_paths (take l.number l.spots)) q;
  left : first (clashes_in l.store [] l.spots) ≡ first (clashes_in l.store (spot_paths (take l.number l.spots)) (drop l.number l.spots));
}
