use Rattle.std.proofs.Common.{List, ap, subst, ◌∙◌, [], map, None}
use Rattle.std.specs.List.{AllZip}
use Rattle.smk_world.specs.Trees.{Path, among}
use Rattle.smk_flow.specs.declared.job.Job.{Job}
use Rattle.smk_trigger.specs.declared.facts.JobFacts.{JobFacts}
use Rattle.smk_plan.specs.States.{job_path}
use Rattle.smk_plan_states.specs.Judged.{with_states}
use Rattle.smk_plan_table.specs.Parts.{IsSuspectOf}
use Rattle.smk_plan_table.proofs.Assembled.{judged}
use Rattle.smk_plan_table.proofs.judging.judge.Goals as goal

pub returns-clause-judged : goal.returns-clause-judged
returns-clause-judged g c = λ image agree.
    judged image c.args.settings.now c.args.ran.now c.args.jobs.now
    c.in_ok-facts.facts c.in_ok-reasons.reasons c.in_ok-forced.forced c.in_ok-running.running
    (c.in_ok-facts.ensures image (with_states c.args.jobs.now []) agree.stored agree.sighted agree.summed agree.recorded agree.read)
    c.in_ok-reasons.ensures (c.in_ok-forced.ensures ∙ ap (map (λ (f : JobFacts). f.forced)) c.as_slice.ensures)
    (c.in_ok-running.ensures ∙ ap (map (λ j. None)) c.as_slice-2.ensures)

pub returns-clause-wholes : goal.returns-clause-wholes
returns-clause-wholes g c = λ image agree. c.in_ok-wholes.ensures image agree.stored agree.sighted agree.named agree.recorded agree.made

pub returns-clause-begun : goal.returns-clause-begun
returns-clause-begun g c =
    c.in_ok-begun.ensures
    ∙ ap (λ (jobs : List Job). map (λ (j : Job). among c.as_slice-4.result.now (job_path j)) jobs) c.as_slice-3.ensures
    ∙ ap (λ (ran : List Path). map (λ (j : Job). among ran (job_path j)) c.args.jobs.now.jobs) c.as_slice-4.ensures

pub returns-clause-suspects : goal.returns-clause-suspects
returns-clause-suspects g c =
    subst (λ (jobs : List Job). AllZip (IsSuspectOf c.args.store.now c.args.seen.now c.args.settings.now.bounds) jobs c.in_ok-suspects.suspects.items)
    c.as_slice-5.ensures c.in_ok-suspects.ensures
