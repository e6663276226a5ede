use Rattle.std.proofs.Common.{◌<◌, List, length, subst, sym, ap, ◌∙◌}
use Rattle.std.specs.List.{slice_get}
use Rattle.smk_flow.specs.declared.job.Job.{Job}
use Rattle.smk_plan_live.specs.Live.{LivePlan}
use Rattle.smk_plan_live.specs.Carried.{begun_entries}
use Rattle.smk_plan_live.proofs.live.LivePlan.start_of.Goals as goal

pub element-job-requires : goal.element-job-requires
element-job-requires c =
    subst (λ (js : List Job). c.args.number < length js) (sym c.as_slice.ensures)
    (subst (λ (p : LivePlan). c.args.number < length p.base.jobs.jobs) (sym c.self.view_is) c.requires)

pub returns : goal.returns
returns c =
    record {
      job = c.element-job.result.now;
      is = sym (ap (λ (p : LivePlan). slice_get p.base.jobs.jobs c.args.number) c.self.view_is)
          ∙ ap (λ js. slice_get js c.args.number) (sym c.as_slice.ensures) ∙ c.element-job.ensures;
      named = sym c.has_name.ensures ∙ c.if-not-has_name.false;
      had = sym c.in_ok-state.ensures ∙ c.in-Some.is;
      entries = c.in_ok-rows.ensures.entries ∙ ap (λ (p : LivePlan). begun_entries p.base c.element-job.result.now) c.self.view_is;
      sights = c.in_ok-rows.ensures.sights;
    }
