use Rattle.std.proofs.Common.{◌≡◌, ◌||◌, ℕ, List, drop}
use Rattle.std.specs.BTreeSet.{contains_text}
use Rattle.std.specs.List.{list_any}
use Rattle.smk_plan_look.specs.Needs.{item_touches}
use Rattle.smk_plan_look.proofs.needs.touched_in.Given as goal

abbrev pub invariant-loop-item : goal.invariant-loop-item
invariant-loop-item l = (q : List ℕ) →
    (contains_text l.touched q || list_any (item_touches l.store l.seen q) (drop l.item-index l.items)) ≡ list_any (item_touches l.store l.seen q) l.items
