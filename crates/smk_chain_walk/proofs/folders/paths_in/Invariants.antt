use Rattle.std.proofs.Common.{◌≡◌, ℕ, List, map, drop, length, ◌≤◌}
use Rattle.std.specs.BTreeSet.{contains_text}
use Rattle.smk_world.specs.Calls.{in_folder}
use Rattle.smk_world.specs.Trees.{among}
use Rattle.smk_chain_walk.proofs.folders.paths_in.Given as goal

abbrev pub decreases-files : goal.decreases-files
decreases-files l = l.number

abbrev pub invariant-files : goal.invariant-files
invariant-files l = (l.number ≤ length l.files) × ((q : List ℕ) → contains_text l.set q ≡ among (map (in_folder l.folder) (drop l.number l.files)) q)
