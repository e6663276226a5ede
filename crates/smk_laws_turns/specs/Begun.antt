-- How the folder differs once a job has begun, or an output was removed.
use Rattle.std.specs.Prelude.{◌≡◌, ℕ, true, false, List, [], ◌∷◌, ◌++◌, Some, IsTrue}
use Rattle.smk_base.specs.Place.{mark_place}
use Rattle.smk_world.specs.declared.event.Event.{Event}
use Rattle.smk_world.specs.Calls.{HasOwners}
use Rattle.smk_world.specs.Devices.{AreLooks}
use Rattle.smk_world.specs.Requests.{HasDone}
use Rattle.smk_world.specs.Requests.Request.{Remove, Settle}
use Rattle.smk_world.specs.Runs.{Follows}
use Rattle.smk_world.specs.Trees.{Act, IsIn, Path, among}
use Rattle.smk_world.specs.World.{IsFormed, World, out_paths, run}
use Rattle.smk_flow.specs.declared.job.Job.{Job}
use Rattle.smk_record.specs.declared.record.Stamp.{Stamp}
use Rattle.smk_chain.specs.declared.jobs.Jobs.{Jobs}
use Rattle.smk_trigger.specs.declared.reason.State.{State}
use Rattle.smk_plan.specs.States.{Plan}
use Rattle.smk_drive.specs.Moments.{Rules, is_gone, is_spent_now, seen}
use Rattle.smk_drive_course.specs.Stands.{IsClear, Stand, moment_of}
use Rattle.smk_drive_course.specs.Steps.{Deed, IsToBegin, calls_of}
use Rattle.smk_laws_turns.specs.Agreeing.{IsBegunOutput, IsSpentOutput}
use Rattle.smk_laws_turns.specs.Changing.{DiffersAt}
use Rattle.smk_laws_turns.specs.Hubs.{IsAt, IsOurs, Parts}
use Rattle.smk_laws_turns.specs.Differing.{AreOfEntry}

-- The folder once a job has begun: it differs at the job's outputs, which are marked, and at which nothing stands, and its logs are noted; it has what the run
-- found and its own. No mark of another path that is gone has come.
pub record IsBegunFor (rules : Rules) (entry : World) (jobs : Jobs) (w v : World) (j : Job) : Type 0 where
  pub member : IsIn jobs.jobs j
  pub differs : DiffersAt (seen rules w) (seen rules v) jobs rules.settings.targets (out_paths j.recipe)
  pub outputs : (q : Path) → among (out_paths j.recipe) q ≡ true → IsBegunOutput (seen rules w) (seen rules v) q
  pub logged : (q : Path) → among j.logs q ≡ true → (seen rules v).noted q ≡ true
  pub ours : IsOurs rules entry jobs.jobs v
  pub still_gone : (q : Path) → among (out_paths j.recipe) q ≡ false → is_gone (w.nodes (mark_place q)) ≡ true → is_gone (v.nodes (mark_place q)) ≡ true

-- So it is once the job that is to begin has begun, where sources were read before.
abbrev pub BeginDiffers : Type 0
BeginDiffers =
    (act : Act) (rules : Rules) (entry : World) (h : Parts) (s : Stand) (w : World) (before : List Event) (deeds : List Deed) (e : Job × State)
    (made : ℕ) (stamps : List Stamp) (es reads beginning : List Event) →
    IsAt rules entry h s w before deeds →
    HasOwners w →
    IsToBegin rules entry s w before e made stamps →
    es ≡ reads ++ beginning →
    AreLooks false reads → HasDone (calls_of rules e.0) beginning → Follows act w es → IsBegunFor rules entry h.live.base.jobs w (run w es) e.0

-- The folder once an output of a job was removed: it differs there, where nothing stands any more; it has what the run found and its own.
pub record IsSpentFor (rules : Rules) (entry : World) (jobs : Jobs) (w v : World) (p : Path) : Type 0 where
  pub job : Job
  pub member : IsIn jobs.jobs job
  pub is_output : among (out_paths job.recipe) p ≡ true
  pub differs : DiffersAt (seen rules w) (seen rules v) jobs rules.settings.targets (p ∷ [])
  pub output : IsSpentOutput (seen rules w) (seen rules v) p
  pub ours : IsOurs rules entry jobs.jobs v

-- So it is once an output was removed that is spent by the plan in force, whose jobs are these.
abbrev pub SpendDiffers : Type 0
SpendDiffers =
    (act : Act) (rules : Rules) (entry : World) (jobs : Jobs) (s : Stand) (w : World) (before : List Event) (plan : Plan) (p : Path) (e : Event) →
    AreOfEntry rules entry jobs →
    IsFormed w →
    IsOurs rules entry jobs.jobs w →
    IsClear rules s w before →
    s.plan ≡ Some plan →
    plan.jobs ≡ jobs.jobs →
    IsTrue (is_spent_now rules (moment_of s w before) p) →
    HasDone (Remove p ∷ []) (e ∷ []) → Follows act w (e ∷ []) → IsSpentFor rules entry jobs w (run w (e ∷ [])) p

-- The jobs of what a run keeps are of its entry.
abbrev pub JobsAreOfEntry : Type 0
JobsAreOfEntry =
    (rules : Rules) (entry : World) (h : Parts) (s : Stand) (w : World) (before : List Event) (deeds : List Deed) →
    IsAt rules entry h s w before deeds → AreOfEntry rules entry h.live.base.jobs

-- What makes removals firm leaves what is seen.
abbrev pub SettlingLeaves : Type 0
SettlingLeaves =
    (act : Act) (rules : Rules) (w : World) (paths : List Path) (es : List Event) →
    HasDone (Settle paths ∷ []) es → Follows act w es → (seen rules (run w es) ≡ seen rules w) × ((run w es).children ≡ w.children)
