-- What a run of the jobs that are due leaves: the plan of its exit.
use Rattle.std.specs.Prelude.{◌≡◌, ℕ, suc, true, List, [], map, length, Some}
use Rattle.smk_world.specs.declared.event.Event.{Event}
use Rattle.smk_world.specs.World.{World, run, in_paths, out_paths}
use Rattle.smk_world.specs.Runs.{Follows}
use Rattle.smk_world.specs.Trees.{Path, Each, IsIn}
use Rattle.smk_record.specs.Spelling.{ReadsRecords}
use Rattle.smk_flow.specs.declared.job.Job.{Job}
use Rattle.smk_flow.specs.Flows.{Flow}
use Rattle.smk_store.specs.Images.{Image}
use Rattle.smk_store.specs.Soundness.{Outside, SoundWorld}
use Rattle.smk_store.specs.Trust.{Versions, SumsDiffer}
use Rattle.smk_chain.specs.declared.jobs.Maker.{Maker}
use Rattle.smk_chain.specs.Derive.{Derived, derivation}
use Rattle.smk_laws_protocol.specs.Protocol.{now}
use Rattle.smk_laws_protocol.specs.Midway.{IsTop}
use Rattle.smk_trigger.specs.declared.reason.State.{State}
use Rattle.smk_trigger.specs.declared.reason.State.TheVariants.{Clean}
use Rattle.smk_trigger.specs.JobStates.{is_to_run}
use Rattle.smk_pick.specs.declared.settings.Force.TheVariants.{No}
use Rattle.smk_pick.specs.declared.settings.Settings.{Settings}
use Rattle.smk_plan.specs.States.{Plan, Progress, IsPlan, LastPlan, nothing_done, staged, maker_of, is_current}
use Rattle.smk_plan.specs.declared.duty.Duty.{Duty}
use Rattle.smk_run.specs.Duties.{serials, due}
use Rattle.smk_run.specs.Runs.{AreInOrder}
use Rattle.smk_run.specs.Turns.{Turn, is_closed, is_done}
use Rattle.smk_plan_duties.specs.Meaning.{AreMeant}
use Rattle.smk_safe.specs.Planned.{IsPlain, IsFit}
use Rattle.smk_safe.specs.Safe.{IsRunOf}
use Rattle.smk_safe.specs.Dues.{TellsMakers}

-- ## The run

-- A run from a folder that is sound for versions of which no two different contents have the same SHA-256, of the jobs that are due by a plan of it where nothing was done yet: looks, the settling of the marks and notes that were found, and the turns.
-- The jobs gather nothing and make plain files.
pub record IsDueRun (o : Outside) (entry : World) (H : Versions) (flow : Flow) (settings : Settings) (plan : Plan) (ts : List Turn) (es : List Event) : Type 0 where
  pub makers : List Maker
  pub duties : List Duty
  pub cores : ℕ
  pub top : ℕ
  pub reads : ReadsRecords o.read
  pub differ : SumsDiffer H
  pub sound : SoundWorld o entry H
  pub is_top : IsTop o entry top
  pub planned : IsPlan flow (now o entry) settings nothing_done plan
  pub plain : Each IsPlain plan.jobs
  pub meant : AreMeant (now o entry) plan.jobs plan.states duties
  pub told : TellsMakers makers plan
  pub in_order : AreInOrder cores (due (Some (suc top)) duties plan.jobs) ts
  pub fit : Each IsFit ts
  pub follows : Follows o.act entry es
  pub is_run : IsRunOf o (serials makers (Some (suc top)) duties) ts entry es

-- each job that is due had its turn, and is done
pub record AreAllDone (due_jobs : ℕ) (ts : List Turn) : Type 0 where
  pub all : length ts ≡ due_jobs
  pub done : Each (λ (t : Turn). is_done t.course ≡ true) ts

-- ## The exit

-- Where all turns were closed, whether their jobs are done or failed, the same jobs are derived at the exit, and nothing is refused.
abbrev pub SameDerivation : Type 0
SameDerivation =
    (o : Outside) (entry : World) (H : Versions) (flow : Flow) (settings : Settings) (plan : Plan) (ts : List Turn) (es : List Event) →
    IsDueRun o entry H flow settings plan ts es →
    Each (λ (t : Turn). is_closed t.course ≡ true) ts → derivation flow (now o (run entry es)) plan.lists settings.targets ≡ Derived plan.jobs

-- the plan, with each job Clean
abbrev pub all_clean : Plan → Plan
all_clean plan = record plan { states = map (λ j. Clean) plan.jobs }

-- these jobs, by their first outputs, have begun, and none runs
abbrev pub begun_so : List Path → Progress
begun_so begun = record { begun = begun; running = [] }

-- By this folder the last plan has the jobs of this one, all of them are Clean, whichever have begun, and each target is current.
pub record IsAllClean (flow : Flow) (image : Image) (settings : Settings) (plan : Plan) : Type 0 where
  pub planned : (begun : List Path) → IsPlan flow image settings (begun_so begun) (all_clean plan)
  pub last : (begun : List Path) → LastPlan flow image settings (begun_so begun) plan.lists (all_clean plan)
  pub current : (begun : List Path) → Each (λ p. is_current image settings (begun_so begun) (all_clean plan) p ≡ true) settings.targets

-- Where each job that is due had its turn and is done, and nothing is forced, the plan of the exit has the same jobs, all of them are Clean, and each target is current. So
-- a next run starts none.
abbrev pub RunLeavesAllClean : Type 0
RunLeavesAllClean =
    (o : Outside) (entry : World) (H : Versions) (flow : Flow) (settings : Settings) (plan : Plan) (ts : List Turn) (es : List Event)
    (ran : IsDueRun o entry H flow settings plan ts es) →
    settings.force ≡ No →
    AreAllDone (length (due (Some (suc ran.top)) ran.duties plan.jobs)) ts → IsAllClean flow (now o (run entry es)) settings plan

-- ## A run in which a job failed

-- the job had its turn, and is done
abbrev pub HadDoneTurn : List Turn → Job → Type 0
HadDoneTurn ts j = (t : Turn) × IsIn ts t × (t.job ≡ j) × (is_done t.course ≡ true)

-- The job rests or is done, and so do or are those that make what it reads, and so on.
pub data IsKept (plan : Plan) (ts : List Turn) : Job → Type 0 where
  Kept :
      (j : Job) (s : State) →
      IsIn (staged plan) (j, s) →
      (is_to_run s ≡ true → HadDoneTurn ts j) →
      ((q : Path) (k : Job) (u : State) → IsIn (in_paths j.recipe) q → maker_of plan q ≡ Some (k, u) → IsKept plan ts k) → IsKept plan ts j

-- By this plan these jobs are Clean, and what they make of the targets is current.
pub record StayClean (image : Image) (settings : Settings) (plan later : Plan) (ts : List Turn) : Type 0 where
  pub jobs : later.jobs ≡ plan.jobs
  pub clean : (j : Job) → IsKept plan ts j → IsIn (staged later) (j, Clean)
  pub current : (j : Job) (p : Path) → IsKept plan ts j → IsIn (out_paths j.recipe) p → IsIn settings.targets p → is_current image settings nothing_done later p ≡ true

-- Where all turns were closed, be a job failed or not, and no output is temporary, the plan of the exit has each job Clean that rests or is done, where so is all that it needs.
-- With a temporary output that was removed a job that rests may become a Restore, when one that reads it becomes Dirty.
abbrev pub KeptJobsStayClean : Type 0
KeptJobsStayClean =
    (o : Outside) (entry : World) (H : Versions) (flow : Flow) (settings : Settings) (plan : Plan) (ts : List Turn) (es : List Event) →
    IsDueRun o entry H flow settings plan ts es →
    settings.force ≡ No →
    Each (λ (j : Job). j.temps ≡ []) plan.jobs →
    Each (λ (t : Turn). is_closed t.course ≡ true) ts →
    (later : Plan) →
    IsPlan flow (now o (run entry es)) settings nothing_done later → later.lists ≡ plan.lists → StayClean (now o (run entry es)) settings plan later ts

-- Each job that had its turn and is done is so: what it needs comes before it, and each turn before another one is of a job that is done.
abbrev pub DoneJobsAreKept : Type 0
DoneJobsAreKept =
    (o : Outside) (entry : World) (H : Versions) (flow : Flow) (settings : Settings) (plan : Plan) (ts : List Turn) (es : List Event) →
    IsDueRun o entry H flow settings plan ts es → (t : Turn) → IsIn ts t → is_done t.course ≡ true → IsKept plan ts t.job
