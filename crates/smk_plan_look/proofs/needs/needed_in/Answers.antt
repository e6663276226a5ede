use Rattle.std.proofs.Common.{ap, ◌∙◌}
use Rattle.std.specs.List.{list_any}
use Rattle.smk_plan_look.specs.Needs.{job_due}
use Rattle.smk_plan_look.proofs.Touched.{due_is}
use Rattle.smk_plan_look.proofs.needs.needed_in.Goals as goal

pub returns : goal.returns
returns c = λ q.
    c.in_ok-needed.ensures q ∙ ap (list_any (job_due c.args.store.now c.args.seen.now q)) c.as_slice.ensures ∙ due_is c.args.store.now c.args.jobs.now c.args.seen.now q
