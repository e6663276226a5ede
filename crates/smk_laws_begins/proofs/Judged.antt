-- A kept plan that agrees with the folder is judged by what is so.
use Rattle.std.proofs.Common.{◌∙◌, Bool, ap, sym}
use Rattle.smk_pick.specs.declared.settings.Settings.{Settings}
use Rattle.smk_plan_facts.proofs.FactsTold.{facts_so}
use Rattle.smk_plan_facts.proofs.WholesTold.{wholes_so}
use Rattle.smk_plan_states.specs.Judged.{any_held_back}
use Rattle.smk_plan_live.proofs.Judging.{wholes_are}
use Rattle.smk_plan_live.specs.Live.{LivePlan}
use Rattle.smk_plan_live.specs.Lives.{progress_of as kept_progress}
use Rattle.smk_drive.specs.Moments.{Moment, Rules, progress_of, seen}
use Rattle.smk_laws_begins.specs.Picked.{JudgedAsKept}
use Rattle.smk_laws_begins.proofs.Alike.{alike_turned, held_alike}

-- a job is held back by the plan, with these settings
abbrev judged_by : Rules → Moment → LivePlan → Settings → Bool
judged_by rules m live s =
    any_held_back (record { image = seen rules m.world; settings = s; progress = progress_of m.world m.begun }) live.base.jobs live.plan.states

pub judged_as_kept : JudgedAsKept
judged_as_kept rules m live wholes alive settings progress agrees whole = (
  record {
    settings = sym settings;
    progress = progress;
    served = agrees.served;
    each = alive.each;
    ranks = alive.ranked (seen rules m.world) agrees;
    whole = wholes_are facts_so wholes_so live.base live.settings (seen rules m.world) agrees wholes whole;
  },
  (alive.now (seen rules m.world) agrees).back
      ∙ held_alike (seen rules m.world) live.settings live.base.jobs live.plan.states (kept_progress live.base) (progress_of m.world m.begun)
      (alike_turned progress)
      ∙ ap (judged_by rules m live) settings,
)
