use Rattle.std.proofs.Common.{◌≡◌, ◌<◌, ℕ, Some, map}
use Rattle.std.specs.BTreeMap.{get_by_text}
use Rattle.smk_world.specs.Trees.{Path}
use Rattle.smk_flow.specs.PatternsOf.{rule_of}
use Rattle.smk_choose.specs.declared.choice.Chosen.{Chosen}
use Rattle.smk_choose.specs.Heights.{node_at}
use Rattle.smk_choose.specs.Reach.{path_at}
use Rattle.smk_choose.specs.Decided.{is_deep_enough, chosen_by}
use Rattle.smk_choose.proofs.table.first_choices.Given as goal

abbrev pub invariant-loop-number : goal.invariant-loop-number
invariant-loop-number l =
    (right : Path → Chosen) →
    ((n : ℕ) → n < l.end → chosen_by l.flow (map rule_of l.flow.rules) l.reach.paths.items (is_deep_enough l.heights) (node_at l.reach.nodes.items n)
    ≡ right (path_at l.reach.paths.items n)) →
    (n : ℕ) → n < l.number → get_by_text l.kept (path_at l.reach.paths.items n) ≡ Some (right (path_at l.reach.paths.items n))
