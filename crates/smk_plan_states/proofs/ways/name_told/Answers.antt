use Rattle.std.proofs.Common.{◌∙◌, ap}
use Rattle.std.specs.List.{slice_get}
use Rattle.std.specs.Option.{option_and_then}
use Rattle.smk_world.specs.World.{out_paths}
use Rattle.smk_world.specs.Trees.{first}
use Rattle.smk_flow.specs.declared.job.Job.{Job}
use Rattle.smk_chain.specs.declared.jobs.Maker.{Maker}
use Rattle.smk_plan_states.specs.Lines.{maker_to}
use Rattle.smk_plan_states.proofs.LookUps.{job_by_maker}
use Rattle.smk_plan_states.proofs.ways.name_told.Goals as goal

pub returns : goal.returns
returns c = λ J ways.
    c.first_of.ensures
    ∙ ap (option_and_then (λ (j : Job). first (out_paths j.recipe)))
    (c.job_of.ensures
    ∙ (λ i. option_and_then (λ (m : Maker). option_and_then (slice_get (ways.each_job i)) m.job) (c.maker_to.ensures J ways i))
    ∙ job_by_maker J.jobs (maker_to J c.args.path.now))
