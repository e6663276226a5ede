use Rattle.std.proofs.Common.{List, ap, ◌∙◌}
use Rattle.std.specs.BTreeMap.{get_by_text}
use Rattle.std.specs.List.{list_any, slice_get}
use Rattle.smk_world.specs.declared.recipe.Item.{Item}
use Rattle.smk_world.specs.Trees.{Path}
use Rattle.smk_plan_live.specs.Readers.{reading, stands_over}
use Rattle.smk_plan_live.proofs.Users.{reading_step}
use Rattle.smk_plan_live.proofs.readers.push_items.Goals as goal

pub loop-item-preserved : goal.loop-item-preserved
loop-item-preserved c = λ m.
    let sites = get_by_text c.args.base.now.sites in
    reading_step (λ (item : Item). list_any (stands_over sites m) item.paths) c.args.items.now c.loop-item.item-index c.item-item.result c.args.reader
    (slice_get c.loop-item.readers.items m) (slice_get c.push_paths.new.readers.items m) _ c.loop-item-test.true c.item-item.is
    (c.in_ok-push_paths.ensures m
    ∙ ap (λ (paths : List Path). reading (list_any (stands_over sites m) paths) c.args.reader (slice_get c.loop-item.readers.items m)) c.as_slice.ensures)
    (c.loop-item.invariant m)
