-- What a run with jobs side by side leaves that came to its end.
use Rattle.std.specs.Prelude.{◌≡◌, Bool, true, List, [], map, zip, None, Some, Result, Ok, is_none}
use Rattle.smk_world.specs.World.{World}
use Rattle.smk_world.specs.Devices.{Device, Sunk}
use Rattle.smk_world.specs.Trees.{Each, Path}
use Rattle.smk_flow.specs.declared.job.Job.{Job}
use Rattle.smk_record.specs.Spelling.{ReadsRecords}
use Rattle.smk_store.specs.Images.{Image, seen}
use Rattle.smk_store.specs.Soundness.{Outside, SameSources, SoundWorld}
use Rattle.smk_store.specs.Trust.{SumsDiffer, Versions}
use Rattle.smk_chain.specs.Mean.{Setting, setting_of}
use Rattle.smk_trigger.specs.declared.reason.State.TheVariants.{Clean}
use Rattle.smk_pick.specs.declared.settings.Force.TheVariants.{No}
use Rattle.smk_plan.specs.States.{IsPlan, LastPlan, Plan, Progress, is_current}
use Rattle.smk_laws_plan.specs.Current.{IsClean, IsComplete}
use Rattle.smk_safe.specs.Planned.{IsPlain}
use Rattle.smk_safe.specs.Exit.{begun_so}
use Rattle.smk_report.specs.declared.fault.Fault.{Fault}
use Rattle.smk_drive.specs.Moments.{Rules}
use Rattle.smk_drive_course.specs.declared.ending.End.{End}
use Rattle.smk_drive_course.specs.Driven.{HasDriven}

-- the jobs of each plan by these rules gather nothing and make plain files
abbrev pub PlansArePlain : Rules → Type 0
PlansArePlain rules =
    (image : Image) (progress : Progress) (plan : Plan) →
    IsComplete image → IsPlan rules.flow image rules.settings progress plan → Each IsPlain plan.jobs

-- what a clean run has of this workflow, from the sources that stand in the folder
abbrev pub setting_in : Outside → Rules → World → Setting
setting_in o rules w = setting_of rules.flow o.act (λ j. is_none (rules.missing j)) (seen o.read w)

-- A run from the sources of the first world came to its end in the other one, and told this: each target of which it told that it is current is what a clean
-- run makes of it; and the sources are as they were.
pub record HasToldWell (o : Outside) (rules : Rules) (w v : World) (end : End) : Type 0 where
  pub targets : Each (λ (x : Path × Bool). x.1 ≡ true → IsClean (setting_in o rules w) (seen o.read v) x.0) (zip rules.settings.targets end.current)
  pub sources : SameSources (seen o.read w) (seen o.read v)

-- what is given of a run that came to its end, from a folder that is sound for versions of which no two different contents have the same SHA-256
abbrev pub OfEnded : (Outside → Rules → World → World → End → Type 0) → Type 0
OfEnded P =
    (o : Outside) (rules : Rules) (H : Versions) (end : End) (w v : World) (old new : Device) (out_old out_new : Sunk) →
    old.world ≡ Some w →
    new.world ≡ Some v →
    rules.read ≡ o.read →
    ReadsRecords o.read → SumsDiffer H → SoundWorld o w H → HasDriven o.act rules (Ok end) old new out_old out_new → P o rules w v end

-- So it is of each run that came to its end, be a job failed or not.
abbrev pub DrivenTells : Type 0
DrivenTells = OfEnded HasToldWell

-- So it is of what a run came to tell at its end, whatever the sink or want of memory did as it told that.
abbrev pub DrivenTellsAll : Type 0
DrivenTellsAll =
    (o : Outside) (rules : Rules) (H : Versions) (result : Result End Fault) (end : End) (w v : World) (old new : Device) (out_old out_new : Sunk) →
    old.world ≡ Some w →
    new.world ≡ Some v →
    rules.read ≡ o.read →
    ReadsRecords o.read →
    SumsDiffer H →
    SoundWorld o w H → (h : HasDriven o.act rules result old new out_old out_new) → h.told ≡ Some end → HasToldWell o rules w v end

-- each target is what a clean run from the sources of the first world makes of it
abbrev pub AllAreClean : Outside → Rules → World → World → End → Type 0
AllAreClean o rules w v end = Each (IsClean (setting_in o rules w) (seen o.read v)) rules.settings.targets

-- So it is where no job failed.
abbrev pub DrivenIsClean : Type 0
DrivenIsClean = OfEnded (λ o rules w v end. end.first ≡ None → AllAreClean o rules w v end)

-- The last plan of the folder has each job Clean, and each target is current, whichever jobs have begun.
pub record LeavesNone (o : Outside) (rules : Rules) (v : World) : Type 0 where
  pub plan : Plan
  pub last : (begun : List Path) → LastPlan rules.flow (seen o.read v) rules.settings (begun_so begun) [] plan
  pub clean : plan.states ≡ map (λ (j : Job). Clean) plan.jobs
  pub current : (begun : List Path) → Each (λ p. is_current (seen o.read v) rules.settings (begun_so begun) plan p ≡ true) rules.settings.targets

-- So it is where no job failed and none is forced.
abbrev pub DrivenLeavesNone : Type 0
DrivenLeavesNone = OfEnded (λ o rules w v end. rules.settings.force ≡ No → end.first ≡ None → LeavesNone o rules v)
