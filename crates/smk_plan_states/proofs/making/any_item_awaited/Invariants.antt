use Rattle.std.proofs.Common.{◌≡◌, drop}
use Rattle.std.specs.List.{list_any}
use Rattle.std.specs.BTreeSet.{contains_text}
use Rattle.smk_plan_states.proofs.making.any_item_awaited.Given as goal

abbrev pub invariant-loop-item : goal.invariant-loop-item
invariant-loop-item l =
    list_any (λ item. list_any (λ out. contains_text l.awaited out.path) item.outs) l.items
    ≡ list_any (λ item. list_any (λ out. contains_text l.awaited out.path) item.outs) (drop l.item-index l.items)
