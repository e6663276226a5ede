use Rattle.std.proofs.Common.{ap, ◌∙◌}
use Rattle.std.specs.Prelude.{◌||◌}
use Rattle.std.specs.BTreeSet.{contains_text}
use Rattle.smk_world.specs.Trees.{among}
use Rattle.smk_plan_facts.proofs.Outs.{all_added, folders_are}
use Rattle.smk_plan_facts.proofs.forced.add_above.Goals as goal

pub returns : goal.returns
returns c = λ q.
    all_added c.deref-folder-items.result.now c.loop-folder.folder-index q (contains_text c.loop-folder.set q) _ c.loop-folder-test.false (c.loop-folder.invariant q)
    ∙ ap (λ fs. among fs q || contains_text c.args.set.now q) (c.deref-folder-items.ensures.value ∙ c.in_ok-folders.ensures)
    ∙ ap (λ b. b || contains_text c.args.set.now q) (folders_are c.args.path.now q)
