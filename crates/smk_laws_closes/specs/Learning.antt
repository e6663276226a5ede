-- What the end of a job makes of the plan that is kept.
use Rattle.std.specs.Prelude.{◌≡◌, ℕ, true, false, List, map, Option, Some, None, Result, Err, IfErr}
use Rattle.std.specs.List.{slice_get}
use Rattle.smk_world.specs.declared.event.Event.{Event}
use Rattle.smk_world.specs.World.{World, out_paths}
use Rattle.smk_world.specs.Calls.{HasOwners}
use Rattle.smk_world.specs.Devices.{AreLooks}
use Rattle.smk_record.specs.declared.record.Record.{Record}
use Rattle.smk_record.specs.Spelling.{ReadsRecords}
use Rattle.smk_flow.specs.declared.job.Job.{Job}
use Rattle.smk_flow.specs.Flows.{Flow}
use Rattle.smk_store.specs.Images.{seen}
use Rattle.smk_pick.specs.declared.settings.Settings.{Settings}
use Rattle.smk_report.specs.declared.fault.Fault.{Fault}
use Rattle.smk_report.specs.declared.fault.Fault.TheVariants as fault
use Rattle.smk_plan_live.specs.declared.base.Base.{Base}
use Rattle.smk_plan_live.specs.Live.{LivePlan}
use Rattle.smk_plan_live.specs.declared.phase.Phase.TheVariants.{Closed}
use Rattle.smk_plan_live.specs.Carried.{advanced}
use Rattle.smk_plan_live.specs.Lives.{IsLive}
use Rattle.smk_drive_step.specs.Crews.{is_device}
use Rattle.smk_drive_outcome.specs.declared.outcome.Outcome.{Outcome}
use Rattle.smk_drive_outcome.specs.Outcomes.{AreOutcomes, AreUnowned}
use Rattle.smk_laws_turns.specs.Resting.{IsReplyOf}

-- what is known and seen once the job of the number was closed, of whose outputs this is told
abbrev pub closed_base : ℕ → Outcome → Base → Base
closed_base number o b = advanced number Closed None (map Some o.entries) (map Some o.sights) b

-- So it is told of the outputs of the job in the world, where no running child owns what was looked at.
pub record IsOutcomeIn (j : Job) (o : Outcome) (w : World) : Type 0 where
  pub owners : HasOwners w
  pub told : AreUnowned w (out_paths j.recipe) → (read : List ℕ → Option Record) → ReadsRecords read → AreOutcomes (seen read w) (out_paths j.recipe) o

-- The kept plan goes by the same settings, and has the same jobs.
pub record IsSamePlan (old new : LivePlan) : Type 0 where
  pub alive : IsLive new
  pub settings_stay : new.settings ≡ old.settings
  pub jobs_stay : new.base.jobs ≡ old.base.jobs

-- What the run learnt of the end of the job, whose number this is, and answered: a look failed; or there was no memory for what was looked at; or the
-- plan was told of the outputs.
pub data HasLearnt (flow : Flow) (settings : Settings) (number : ℕ) (j : Job) (old new : LivePlan) (w : World) (looks : List Event)
    : Result (Unit {0}) Fault → Type 0 where
  LookFails : AreLooks true looks → HasLearnt flow settings number j old new w looks (Err fault.Device)
  LooksShort : AreLooks false looks → HasLearnt flow settings number j old new w looks (Err fault.OutOfMemory)
  IsToldOf :
      (o : Outcome) (answer : Result (Unit {0}) Fault) →
      AreLooks false looks →
      IsOutcomeIn j o w →
      (old.settings ≡ settings → IsReplyOf flow settings (closed_base number o old.base) new answer) →
      IfErr answer (λ f. is_device f ≡ false) →
      HasLearnt flow settings number j old new w looks answer

-- so it is of the job of the number, where there is one
abbrev pub HasLearntOf : Flow → Settings → ℕ → LivePlan → LivePlan → Result (Unit {0}) Fault → World → List Event → Type 0
HasLearntOf flow settings number old new answer w looks =
    (j : Job) → slice_get old.base.jobs.jobs number ≡ Some j → HasLearnt flow settings number j old new w looks answer
