use Rattle.std.proofs.Common.{◌≡◌, ℕ, drop}
use Rattle.std.specs.BTreeMap.{get_by_text}
use Rattle.std.specs.List.{list_any, slice_get}
use Rattle.smk_world.specs.declared.recipe.Item.{Item}
use Rattle.smk_plan_live.specs.Readers.{reading, stands_over}
use Rattle.smk_plan_live.proofs.readers.push_items.Given as goal

abbrev pub invariant-loop-item : goal.invariant-loop-item
invariant-loop-item l = (m : ℕ) →
    reading (list_any (λ (item : Item). list_any (stands_over (get_by_text l.base.sites) m) item.paths) (drop l.item-index l.items)) l.reader (slice_get l.readers.items m)
    ≡ reading (list_any (λ (item : Item). list_any (stands_over (get_by_text l.base.sites) m) item.paths) l.items) l.reader (slice_get l.initial.readers.items m)
