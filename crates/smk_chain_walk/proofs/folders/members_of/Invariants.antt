use Rattle.std.proofs.Common.{◌≡◌, ◌≤◌, ℕ, List, drop, length, option_map}
use Rattle.std.specs.Prelude.{bytes_eq}
use Rattle.std.specs.BTreeMap.{get_by_text}
use Rattle.std.specs.BTreeSet.{contains_text}
use Rattle.std.specs.List.{find}
use Rattle.smk_chain.specs.declared.jobs.Known.{Known}
use Rattle.smk_chain_walk.specs.Folders.{is_file}
use Rattle.smk_chain_walk.proofs.folders.members_of.Given as goal

abbrev pub decreases-lists : goal.decreases-lists
decreases-lists l = l.number

abbrev pub invariant-lists : goal.invariant-lists
invariant-lists l = (l.number ≤ length l.lists) × ((folder p : List ℕ) → option_map (λ set. contains_text set p) (get_by_text l.members folder)
    ≡ is_file folder p (find (λ (k : Known). bytes_eq k.folder folder) (drop l.number l.lists)))
