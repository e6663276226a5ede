-- What is left to do after a run that left nothing to do, once sources were touched, or one was edited.
use Rattle.std.specs.Prelude.{◌≡◌, ℕ, Bool, List, [], IsTrue, Option, Some, None}
use Rattle.smk_world.specs.declared.event.Node.TheVariants.{Regular}
use Rattle.smk_world.specs.World.{World, IsFormed}
use Rattle.smk_world.specs.Devices.{Device, Sunk}
use Rattle.smk_world.specs.Trees.{Path, IsIn}
use Rattle.smk_flow.specs.declared.job.Job.{Job}
use Rattle.smk_record.specs.Spelling.{ReadsRecords}
use Rattle.smk_store.specs.Images.{Content, is_source, seen, source_at}
use Rattle.smk_store.specs.Soundness.{Outside, SoundWorld}
use Rattle.smk_store.specs.Trust.{Versions, SumsDiffer, is_summed}
use Rattle.smk_trigger.specs.declared.reason.State.{State}
use Rattle.smk_pick.specs.declared.settings.Force.TheVariants.{No}
use Rattle.smk_plan.specs.States.{LastPlan, Plan, nothing_done, staged}
use Rattle.smk_laws_history.specs.Histories.{edited}
use Rattle.smk_report.specs.declared.fault.Fault.{Fault}
use Rattle.smk_run.specs.Turns.{Turn}
use Rattle.smk_words_reading.specs.declared.asked.Asked.TheVariants.{Run}
use Rattle.smk_words_reading.specs.declared.asked.RunWords.{RunWords}
use Rattle.smk_cli_target.specs.Thrift.{IsTouched, TellSums}
use Rattle.smk_cli_entry.specs.declared.asking.Asked.{Asked}
use Rattle.smk_cli_calls.specs.Serving.{settings_of}
use Rattle.smk_cli_calls.specs.Whole.{AsksFor, HasServed}
use Rattle.smk_laws_edit.specs.Edited.{IsToRunFor, PlansDownstream}
use Rattle.smk_clean.specs.Again.{HasNoneLeft, StartsNothing, turns_ran}

-- ## Runs and plans

-- A run of these words, which force no job, led from the folder w to v and ended without a fault. What was there was sound for versions of which no two
-- different contents have the same SHA-256.
pub record HasRunWell (o : Outside) (H : Versions) (words : RunWords) (w v : World) : Type 0 where
  pub old : Device
  pub new : Device
  pub out_old : Sunk
  pub out_new : Sunk
  pub begins : old.world ≡ Some w
  pub ends : new.world ≡ Some v
  pub reads : ReadsRecords o.read
  pub differ : SumsDiffer H
  pub sound : SoundWorld o w H
  pub unforced : words.force ≡ No
  pub served : HasServed o.act o.read (Run words) w None old new out_old out_new

-- A run of these words that begins in the folder x, however it ends.
pub record RunsIn (o : Outside) (words : RunWords) (x : World) : Type 0 where
  pub told : Option Fault
  pub old : Device
  pub new : Device
  pub out_old : Sunk
  pub out_new : Sunk
  pub begins : old.world ≡ Some x
  pub served : HasServed o.act o.read (Run words) x told old new out_old out_new

-- the words ask of the workflow of x for what they asked of that of w
abbrev pub AskForTheSame : RunWords → World → World → Type 0
AskForTheSame words w x = (asked : Asked) → AsksFor words w asked → AsksFor words x asked

-- It is the last plan, as the folder x stands, for what the words ask of the workflow of w.
pub record IsPlanIn (o : Outside) (words : RunWords) (w x : World) (plan : Plan) : Type 0 where
  pub asked : Asked
  pub is_asked : AsksFor words w asked
  pub last : LastPlan asked.flow (seen o.read x) (settings_of asked words) nothing_done [] plan

-- ## After sources were touched

-- The run left v, and x is that folder with other times of sources of at most 1,048,576 bytes. Two things are asked besides. No record of an output of the plan
-- tells such a source by its time alone, for then its job would have to run: a run writes no record that does. And the names of x rise and have each place
-- where something reads, as is so of each folder that a device tells.
pub record IsLeftTouched (o : Outside) (words : RunWords) (w v x : World) : Type 0 where
  pub plan : Plan
  pub is_plan : IsPlanIn o words w v plan
  pub tells : TellSums (seen o.read v) plan
  pub touched : IsTouched (seen o.read v) (seen o.read x)
  pub formed : IsFormed x

-- Still nothing is left to do.
abbrev pub TouchedLeavesNone : Type 0
TouchedLeavesNone =
    (o : Outside) (H : Versions) (words : RunWords) (w v x : World) →
    HasRunWell o H words w v → IsLeftTouched o words w v x → HasNoneLeft o words w x

-- So a run with the same words starts nothing there, however it ends, where they ask for the same of the workflow in it.
abbrev pub TouchedCallStartsNothing : Type 0
TouchedCallStartsNothing =
    (o : Outside) (H : Versions) (words : RunWords) (w v x : World) →
    HasRunWell o H words w v →
    IsLeftTouched o words w v x → AskForTheSame words w x → (next : RunsIn o words x) → StartsNothing next.served.serves

-- It is so after an edit of such a source that puts the bytes that it has.
abbrev pub SameBytesTouch : Type 0
SameBytesTouch =
    (o : Outside) (H : Versions) (words : RunWords) (w v : World) (plan : Plan) (p : Path) (source : Content) (time : ℕ) →
    HasRunWell o H words w v →
    IsPlanIn o words w v plan →
    TellSums (seen o.read v) plan →
    source_at (seen o.read v) p ≡ Some source →
    IsTrue (is_summed source.bytes) → IsLeftTouched o words w v (edited v p (Regular source.bytes time source.read_only))

-- ## After an edit

-- The run left v, and x is that folder after its source p was edited; and the words ask for the same in x, so that the source isn't read for the workflow.
pub record IsLeftEdited (o : Outside) (words : RunWords) (w v x : World) (p : Path) : Type 0 where
  pub bytes : List ℕ
  pub time : ℕ
  pub read_only : Bool
  pub source : IsTrue (is_source (seen o.read v) p)
  pub is : x ≡ edited v p (Regular bytes time read_only)
  pub same : AskForTheSame words w x

-- The last plan there has nothing to do, beside that of the folder that was left, but for the edited source.
abbrev pub EditedCallPlansDownstream : Type 0
EditedCallPlansDownstream =
    (o : Outside) (H : Versions) (words : RunWords) (w v x : World) (p : Path) (before now : Plan) →
    HasRunWell o H words w v →
    IsLeftEdited o words w v x p → IsPlanIn o words w v before → IsPlanIn o words x x now → PlansDownstream p before now

-- the last plan there has to run the job for the edited source
pub record IsRunFor (o : Outside) (words : RunWords) (x : World) (p : Path) (j : Job) : Type 0 where
  pub plan : Plan
  pub is_plan : IsPlanIn o words x x plan
  pub state : State
  pub is_staged : IsIn (staged plan) (j, state)
  pub for_it : IsToRunFor p plan (j, state)

-- So in a run with the same words there that makes its jobs one after another, each job that has its turn is one of those, however the run ends.
abbrev pub EditedCallTurnsDownstream : Type 0
EditedCallTurnsDownstream =
    (o : Outside) (H : Versions) (words : RunWords) (w v x : World) (p : Path) →
    HasRunWell o H words w v →
    IsLeftEdited o words w v x p →
    (next : RunsIn o words x) (t : Turn) → IsIn (turns_ran next.served.serves) t → IsRunFor o words x p t.job
