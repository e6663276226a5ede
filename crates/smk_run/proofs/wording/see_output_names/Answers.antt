use Rattle.std.proofs.Common.{map, take}
use Rattle.smk_world.specs.declared.recipe.OutItem.{OutItem}
use Rattle.smk_world.specs.Trees.{is_text}
use Rattle.smk_record.proofs.Lists.{mapped_more}
use Rattle.smk_run.proofs.Seen.{all_step, text_seen}
use Rattle.smk_run.proofs.wording.see_output_names.Goals as goal

pub loop-item-preserved : goal.loop-item-preserved
loop-item-preserved c =
    let item = c.item-item.result in
    let items = c.args.outputs.now in
    let i = c.loop-item.item-index in
    let e = mapped_more (λ (x : OutItem). x.name) items i item c.loop-item-test.true c.item-item.is in
    all_step is_text (map (λ (x : OutItem). x.name) (take i items)) item.name _ e c.loop-item.invariant (text_seen _ item.name c.as_str-name.ensures c.as_str-name.utf8)
