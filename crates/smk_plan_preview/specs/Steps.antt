-- What the steps of a round tell.
use Rattle.std.specs.Prelude.{◌≡◌, true, List, [], ◌∷◌, length, None, Result, Ok, Err}
use Rattle.std.specs.List.{zip}
use Rattle.smk_flow.specs.Flows.{Flow}
use Rattle.smk_choose.specs.Index.{AreReadings}
use Rattle.smk_store.specs.Images.{Image}
use Rattle.smk_chain.specs.declared.jobs.Jobs.{Jobs}
use Rattle.smk_trigger.specs.declared.reason.State.{State}
use Rattle.smk_pick.specs.declared.settings.Settings.{Settings}
use Rattle.smk_plan.specs.declared.plan.Plan.{Plan as Told}
use Rattle.smk_plan.specs.States.{HasStates, nothing_done}
use Rattle.smk_format.specs.Refused.{command_fault}
use Rattle.smk_report.specs.declared.fault.Fault.{Fault}
use Rattle.smk_drive.specs.Moments.{Rules}
use Rattle.smk_drive.specs.Refusals.{refused_of}
use Rattle.smk_plan_states.specs.Judged.{with_states}
use Rattle.smk_plan_table.specs.Plans.{HasMade}
use Rattle.smk_plan_preview.specs.declared.rounds.Ground.{Ground}
use Rattle.smk_plan_preview.specs.declared.rounds.Round.{Round}
use Rattle.smk_plan_preview.specs.Faults.{is_told}
use Rattle.smk_plan_preview.specs.Fitness.{AreFit}

-- what was read is that of the rules
abbrev pub IsGround : Ground → Type 0
IsGround base = AreReadings base.flow.now base.readings.now

-- one state for each job, and for each target whether it is current
pub record HasLengths (jobs : Jobs) (settings : Settings) (told : Told) : Type 0 where
  pub states : length told.states ≡ length jobs.jobs
  pub current : length told.current ≡ length settings.targets

-- and nothing is wrong with a command
pub record AreSound (flow : Flow) (settings : Settings) (r : Round) : Type 0 where
  pub lengths : HasLengths r.jobs settings r.plan
  pub commands : command_fault flow settings.cores (zip r.jobs.jobs r.plan.states) ≡ None

-- the jobs can be run with this plan of theirs
pub record IsGood (flow : Flow) (settings : Settings) (jobs : Jobs) (told : Told) : Type 0 where
  pub fit : AreFit jobs
  pub lengths : HasLengths jobs settings told
  pub commands : command_fault flow settings.cores (zip jobs.jobs told.states) ≡ None

-- the plan with the states of the table is refused, and this is the first refusal
pub record IsPlanRefused (flow : Flow) (image : Image) (settings : Settings) (jobs : Jobs) (f : Fault) : Type 0 where
  pub states : List State
  pub table : HasStates image settings nothing_done (with_states jobs states)
  pub first :
      (rules : Rules) → rules.flow ≡ flow → rules.settings ≡ settings →
      (rest : List Fault) × (refused_of rules image nothing_done (with_states jobs states) ≡ f ∷ rest)

-- the plan, or what is refused of it, but for commands
abbrev pub Plans : Flow → Image → Settings → Jobs → Result Told Fault → Type 0
Plans flow image settings jobs (Ok told) = HasMade image settings [] jobs told
Plans flow image settings jobs (Err f) = is_told f ≡ true → IsPlanRefused flow image settings jobs f
