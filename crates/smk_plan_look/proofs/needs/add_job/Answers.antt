use Rattle.std.proofs.Common.{ap, ◌||◌, ◌∙◌}
use Rattle.std.specs.BTreeSet.{contains_text}
use Rattle.std.specs.List.{list_any}
use Rattle.smk_plan_look.specs.Needs.{item_due, item_touches}
use Rattle.smk_plan_look.proofs.Touched.{due_by}
use Rattle.smk_plan_look.proofs.needs.add_job.Goals as goal

pub returns : goal.returns
returns c = λ q.
    c.in_ok-add_items.ensures q
    ∙ ap (λ is. list_any (item_due c.args.store.now (contains_text c.in_ok-touched.touched) q) is || contains_text c.args.needed.now q) c.as_slice-2.ensures
    ∙ ap (λ b. b || contains_text c.args.needed.now q)
    (due_by c.args.store.now c.args.seen.now c.args.job.now (contains_text c.in_ok-touched.touched) q
    (λ p. c.in_ok-touched.ensures p ∙ ap (list_any (item_touches c.args.store.now c.args.seen.now p)) c.as_slice.ensures))
