use Rattle.std.proofs.Common.{◌<◌, List, [], length, refl, ap, ap₂, ◌∙◌, subst, sym}
use Rattle.std.specs.Prelude.{slice_index_or, slice_set}
use Rattle.std.specs.List.{slice_get}
use Rattle.smk_flow.specs.declared.job.Job.{Job}
use Rattle.smk_plan_facts.specs.Telling.{flags_but, is_made_of, AreNumbersOf}
use Rattle.smk_plan_live.specs.Live.{LivePlan}
use Rattle.smk_plan_live.specs.Now.{known_now, seen_now}
use Rattle.smk_plan_live.specs.Steps.{IsChangeOf}
use Rattle.smk_plan_live.proofs.live.LivePlan.change_of.Goals as goal

pub job_at-job-requires : goal.job_at-job-requires
job_at-job-requires c =
    subst (λ (js : List Job). c.args.number < length js) (sym c.as_slice-jobs.ensures)
    (subst (λ (p : LivePlan). c.args.number < length p.base.jobs.jobs) (sym c.self.view_is) c.requires.within)

pub makers_again-requires : goal.makers_again-requires
makers_again-requires c =
    let n = c.args.number in
    let numbers =
    subst (λ (p : LivePlan). AreNumbersOf n p.base.jobs.makers (slice_index_or p.flags.made n [])) (sym c.self.view_is) (c.requires.made n c.requires.within) in
    let kept = c.makers_at-numbers.ensures ∙ ap (λ rows. slice_index_or rows n []) c.as_slice-made.ensures in
    coe 1 0 (i. AreNumbersOf n (c.as_slice-told.ensures i) (kept i)) numbers

pub returns : goal.returns
returns c =
    let b = c.self.inside.base in
    let n = c.args.number in
    let j = c.job_at-job.result.now in
    subst
    (λ (p : LivePlan).
    IsChangeOf p n c.args.forced
    (record {
      number = n;
      outputs = c.in_ok-outputs.outputs;
      makers = c.of.result;
      suspects = c.in_ok-suspects.suspects;
      forced = c.in_ok-forced.forced;
    })) c.self.view_is
    (record {
      number = refl;
      job = j;
      is = ap (λ js. slice_get js n) (sym c.as_slice-jobs.ensures) ∙ c.job_at-job.ensures;
      outputs = c.in_ok-outputs.ensures;
      makers = c.of.ensures ∙ c.in_ok-makers.ensures ∙ ap₂ (flags_but (is_made_of (known_now b) (seen_now b) j) n) c.as_slice-told.ensures c.as_slice-flags.ensures;
      suspect = c.suspect_of-suspect.result;
      doubted = c.suspect_of-suspect.ensures;
      suspects = c.in_ok-suspects.ensures ∙ ap (λ ss. slice_set ss n c.suspect_of-suspect.result) c.as_slice-before.ensures;
      force = c.in_ok-forced.ensures ∙ ap (λ fs. slice_set fs n c.args.forced) c.as_slice.ensures;
    })
