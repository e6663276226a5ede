use Rattle.std.proofs.Common.{ap, zip, ◌∙◌}
use Rattle.std.specs.List.{list_all}
use Rattle.smk_chain.specs.declared.jobs.Jobs.{Jobs}
use Rattle.smk_plan_live.specs.Now.{known_now}
use Rattle.smk_laws_turns.specs.Growing.{is_held}
use Rattle.smk_drive_more.proofs.holding.are_held.Goals as goal

pub returns : goal.returns
returns c =
    let jobs = c.as_slice.ensures ∙ ap (λ (js : Jobs). js.jobs) c.jobs.ensures in
    c.are_jobs_held.ensures ∙ (λ i. list_all (is_held (known_now (c.told.ensures i))) (zip (jobs i) (c.ran_from.ensures i)))
