-- The turns of the jobs that are due are those of the plan by which they have their duties.
use Rattle.std.specs.Prelude.{◌≡◌, ℕ, suc, List, Some, None, slice_get}
use Rattle.smk_world.specs.declared.event.Event.{Event}
use Rattle.smk_world.specs.World.{World, IsFormed}
use Rattle.smk_world.specs.Runs.{Follows}
use Rattle.smk_world.specs.Trees.{Path, Each}
use Rattle.smk_flow.specs.declared.job.Job.{Job}
use Rattle.smk_flow.specs.Flows.{Flow}
use Rattle.smk_record.specs.Spelling.{ReadsRecords}
use Rattle.smk_store.specs.Soundness.{Outside, SoundWorld}
use Rattle.smk_store.specs.Trust.{Versions, SumsDiffer}
use Rattle.smk_laws_protocol.specs.Protocol.{now}
use Rattle.smk_laws_protocol.specs.Midway.{IsTop}
use Rattle.smk_chain.specs.declared.jobs.Maker.{Maker}
use Rattle.smk_trigger.specs.declared.reason.State.{State}
use Rattle.smk_pick.specs.declared.settings.Settings.{Settings}
use Rattle.smk_plan.specs.States.{Plan, IsPlan, nothing_done, staged, maker_of}
use Rattle.smk_plan.specs.declared.duty.Duty.{Duty}
use Rattle.smk_plan.specs.Duties.{maker_in}
use Rattle.smk_run.specs.Duties.{serials, due}
use Rattle.smk_run.specs.Runs.{AreInOrder}
use Rattle.smk_run.specs.Turns.{Turn}
use Rattle.smk_plan_duties.specs.Meaning.{AreMeant}
use Rattle.smk_safe.specs.Ready.{AreReady}
use Rattle.smk_safe.specs.Planned.{IsPlain, IsFit, IsRead}
use Rattle.smk_safe.specs.Safe.{IsRunOf, IsSafeRun}

-- Of each path that a job of the plan reads the number is told of the job that makes it; none, where no job does.
pub record TellsMakers (makers : List Maker) (plan : Plan) : Type 0 where
  pub source : (q : Path) → IsRead plan q → maker_of plan q ≡ None → maker_in makers q ≡ None
  pub made : (q : Path) (e : Job × State) → IsRead plan q → maker_of plan q ≡ Some e → (n : ℕ) × (maker_in makers q ≡ Some n) × (slice_get (staged plan) n ≡ Some e)

-- By a plan of the folder as it stands, where nothing was done yet, and duties that are meant by its states, the turns of the jobs that are due are ready, with the serials
-- that the duties tell of products. The first serial that is drawn is the one after the greatest.
abbrev pub DueTurnsAreReady : Type 0
DueTurnsAreReady =
    (o : Outside) (w : World) (flow : Flow) (settings : Settings) (plan : Plan) (makers : List Maker) (duties : List Duty) (cores top : ℕ) (ts : List Turn) →
    IsFormed w →
    IsTop o w top →
    IsPlan flow (now o w) settings nothing_done plan →
    Each IsPlain plan.jobs →
    AreMeant (now o w) plan.jobs plan.states duties →
    TellsMakers makers plan →
    AreInOrder cores (due (Some (suc top)) duties plan.jobs) ts →
    Each IsFit ts → AreReady o (now o w) (serials makers (Some (suc top)) duties) top ts

-- So a run of them is safe: looks, the settling of the marks and notes that were found, and their turns; with all that it leaves after a crash.
abbrev pub DueRunIsSafe : Type 0
DueRunIsSafe =
    (o : Outside) (entry : World) (H : Versions) (flow : Flow) (settings : Settings) (plan : Plan) (makers : List Maker) (duties : List Duty) (cores top : ℕ) (ts : List Turn) (es : List Event) →
    ReadsRecords o.read →
    SumsDiffer H →
    SoundWorld o entry H →
    IsTop o entry top →
    IsPlan flow (now o entry) settings nothing_done plan →
    Each IsPlain plan.jobs →
    AreMeant (now o entry) plan.jobs plan.states duties →
    TellsMakers makers plan →
    AreInOrder cores (due (Some (suc top)) duties plan.jobs) ts →
    Each IsFit ts → Follows o.act entry es → IsRunOf o (serials makers (Some (suc top)) duties) ts entry es → IsSafeRun o entry H top ts es
