use Rattle.std.proofs.Common.{◌<◌, ◌≤◌, ◌∙◌, ap, option_map, subst, sym}
use Rattle.std.specs.Prelude.{slice_set}
use Rattle.smk_drive_step.specs.Crews.{with_job}
use Rattle.smk_drive_step.proofs.Renumbered.{changed_beyond, changed_there}
use Rattle.smk_drive_step.proofs.children.set_job_at.Goals as goal

pub returns-then-at-len : goal.returns-then-at-len
returns-then-at-len c =
    let items = c.args.places.now.items in
    ap (slice_set items c.args.at) (c.set_job.ensures ∙ ap (option_map (with_job c.args.number)) c.index_mut.ensures.value)
    ∙ changed_there (option_map (with_job c.args.number)) items c.args.at c.index_mut.result.now
    (subst (λ n. c.args.at < n) (c.len.ensures ∙ c.args.places.now.ok.0) c.if-at-len.true)

pub returns-else-at-len : goal.returns-else-at-len
returns-else-at-len c =
    sym
    (changed_beyond (option_map (with_job c.args.number)) c.args.places.now.items c.args.at
    (subst (λ n. n ≤ c.args.at) (c.len.ensures ∙ c.args.places.now.ok.0) c.if-at-len.false))
