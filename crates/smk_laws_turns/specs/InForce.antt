-- The plan that is kept is the one in force, where it agrees with the folder and nothing has become known since.
use Rattle.std.specs.Prelude.{◌≡◌, []}
use Rattle.std.specs.List.{flat_map}
use Rattle.smk_flow.specs.declared.job.Job.{Job}
use Rattle.smk_store.specs.Images.{Image}
use Rattle.smk_chain.specs.Derive.{Derived, derivation}
use Rattle.smk_trigger.specs.declared.reason.State.{State}
use Rattle.smk_laws_plan.specs.Current.{IsComplete}
use Rattle.smk_plan.specs.States.{LastPlan, Plan, Progress, staged}
use Rattle.smk_plan_states.specs.Judged.{with_states}
use Rattle.smk_plan_live.specs.Live.{LivePlan}
use Rattle.smk_plan_live.specs.Lives.{IsAgreed, IsLive, progress_of}
use Rattle.smk_report.specs.declared.fault.Fault.{Fault}
use Rattle.smk_drive.specs.Moments.{Rules}
use Rattle.smk_drive.specs.Refusals.{ChainRefuses, of_command}
use Rattle.smk_laws_turns.specs.Progressing.{IsAlike}

-- the plan that is kept: its listings and jobs, with the states of this moment
abbrev pub kept_plan : LivePlan → Plan
kept_plan live = with_states live.base.jobs live.plan.states

-- The kept plan goes by the rules of a run and has come as far; it agrees with the image, in which its listings derive its jobs; and no listing
-- has become known since.
pub record IsKeptFor (rules : Rules) (image : Image) (progress : Progress) (live : LivePlan) : Type 0 where
  pub alive : IsLive live
  pub settings : live.settings ≡ rules.settings
  pub agreed : IsAgreed image live.settings live.base
  pub alike : IsAlike (progress_of live.base) progress
  pub derived : derivation rules.flow image live.base.jobs.lists rules.settings.targets ≡ Derived live.base.jobs.jobs
  pub none : live.plan.known ≡ []

-- So it is the last plan of the chain that begins with its listings.
abbrev pub KeptIsLast : Type 0
KeptIsLast =
    (rules : Rules) (image : Image) (progress : Progress) (live : LivePlan) →
    IsKeptFor rules image progress live → LastPlan rules.flow image rules.settings progress live.base.jobs.lists (kept_plan live)

-- nothing is refused of the commands of a plan
abbrev pub HasCommands : Rules → Image → Progress → Plan → Type 0
HasCommands rules image progress plan =
    flat_map (λ (e : Job × State). of_command rules image progress plan e (rules.missing e.0)) (staged plan) ≡ []

-- And where nothing is refused of its commands, no plan of that chain is refused.
abbrev pub KeptIsUnrefused : Type 0
KeptIsUnrefused =
    (rules : Rules) (image : Image) (progress : Progress) (live : LivePlan) (f : Fault) →
    IsComplete image →
    IsKeptFor rules image progress live →
    HasCommands rules image progress (kept_plan live) → ¬ ChainRefuses rules image progress live.base.jobs.lists f
