use Rattle.std.proofs.Common.{◌≡◌, ◌||◌, ℕ, List, drop}
use Rattle.std.specs.List.{list_any}
use Rattle.smk_world.specs.Trees.{among}
use Rattle.smk_plan_states.specs.Keys.{has_key}
use Rattle.smk_plan_states.proofs.ways.put_items.Given as goal

abbrev pub invariant-loop-item : goal.invariant-loop-item
invariant-loop-item l = (q : List ℕ) →
    (has_key l.keys q || list_any (λ item. among item.paths q) (drop l.item-index l.items)) ≡ (has_key l.initial.keys q || list_any (λ item. among item.paths q) l.items)
