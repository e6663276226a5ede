use Rattle.std.proofs.Common.{◌≡◌, ◌||◌, ℕ, List, drop}
use Rattle.std.specs.BTreeSet.{contains_text}
use Rattle.std.specs.List.{list_any}
use Rattle.smk_plan_look.specs.Needs.{item_due}
use Rattle.smk_plan_look.proofs.needs.add_items.Given as goal

abbrev pub invariant-loop-item : goal.invariant-loop-item
invariant-loop-item l = (q : List ℕ) →
    (contains_text l.needed q || list_any (item_due l.store (contains_text l.touched) q) (drop l.item-index l.items)) ≡ (list_any (item_due l.store (contains_text l.touched) q) l.items || contains_text l.initial.needed q)
