use Rattle.std.proofs.Common.{◌≡◌, ◌≤◌, length, drop, bytes_eq}
use Rattle.std.specs.BTreeMap.{get_by_text}
use Rattle.std.specs.List.{find}
use Rattle.smk_world.specs.Trees.{Path}
use Rattle.smk_chain.specs.declared.jobs.Known.{Known}
use Rattle.smk_choose_wants.specs.Wants.{placed_in}
use Rattle.smk_choose_wants.proofs.places.Places.of.Given as goal

abbrev pub invariant-lists : goal.invariant-lists
invariant-lists l = record {
  at : (q : Path) → placed_in l.known (get_by_text l.numbers q) ≡ find (λ (k : Known). bytes_eq k.folder q) (drop l.number l.known);
  within : l.number ≤ length l.known;
}

abbrev pub decreases-lists : goal.decreases-lists
decreases-lists l = l.number
