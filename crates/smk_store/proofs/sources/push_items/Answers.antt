use Rattle.std.proofs.Common.{List, ◌++◌, drop, ap, sym, ◌∙◌, ◌+◌}
use Rattle.std.specs.List.{flat_map, zip}
use Rattle.std.proofs.lemmas.List.{append-nil, drop_all}
use Rattle.smk_world.specs.declared.recipe.Item.{Item}
use Rattle.smk_store.specs.Sources.{sources_of}
use Rattle.smk_store.proofs.Seeing.{dropped}
use Rattle.smk_store.proofs.sources.push_items.Goals as goal

pub loop-item-preserved : goal.loop-item-preserved
loop-item-preserved c =
    let xs = c.args.inputs.now in
    let i = c.loop-item.item-index in
    let later = flat_map (λ (item : Item). item.paths) (drop (i + 1) xs) in
    c.in_ok-rest.ensures later
    ∙ ap (λ qs. c.loop-item.found ++ sources_of c.args.p.now (zip qs c.loop-item.rest.now))
    (ap (λ t. t ++ later) c.as_slice.ensures ∙ sym (ap (flat_map (λ (item : Item). item.paths)) (dropped xs i c.item-item.result c.loop-item-test.true c.item-item.is)))
    ∙ c.loop-item.invariant

pub returns : goal.returns
returns c =
    sym (append-nil c.loop-item.found)
    ∙ ap (λ (xs : List Item). c.loop-item.found ++ sources_of c.args.p.now (zip (flat_map (λ (item : Item). item.paths) xs) c.loop-item.rest.now))
    (sym (drop_all c.loop-item.item-index c.args.inputs.now c.loop-item-test.false))
    ∙ c.loop-item.invariant
