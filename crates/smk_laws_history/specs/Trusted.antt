-- Laws of trust: what jobs may be started on, and what it holds.
use Rattle.std.specs.Prelude.{◌≡◌, ◌⊎◌, Bool, false, ◌||◌, ◌++◌, List, [], Some, bytes_eq, is_some, IsTrue, Contains}
use Rattle.smk_world.specs.declared.event.Child.{Child}
use Rattle.smk_world.specs.declared.event.Event.{Event}
use Rattle.smk_world.specs.World.{World, IsFormed, in_paths, out_paths}
use Rattle.smk_world.specs.Trees.{Path, Act, among, kind_in}
use Rattle.smk_record.specs.declared.record.Record.{Record}
use Rattle.smk_flow.specs.declared.job.Job.{Job}
use Rattle.smk_flow.specs.Flows.{Flow}
use Rattle.smk_store.specs.Images.{Image, core_at, is_file, is_source, is_whole}
use Rattle.smk_store.specs.Trust.{Versions, Trusted, holder}
use Rattle.smk_store.specs.Soundness.{Holds, Sound}
use Rattle.smk_pick.specs.declared.settings.Settings.{Settings}
use Rattle.smk_plan.specs.States.{Plan, Progress, IsPlan, gathers_from, is_current, is_restored, kept_state}
use Rattle.smk_drive.specs.Moments.{Rules, Moment, IsMoment, is_rest, seen, progress_of}
use Rattle.smk_drive.specs.Lawful.{IsSafeInput, restored}
use Rattle.smk_laws_plan.specs.Current.{IsComplete, HasValidRecords, eased_by}

-- What is trusted, unmarked and whole holds what its record vouches for, also where the marks of these paths, as those of jobs that run
-- as a Restore, don't count in chains.
abbrev pub TrustedHolds : Type 0
TrustedHolds =
    (act : Act) (H : Versions) (image : Image) (restored : List Path) →
    Sound act H image (eased_by image (among restored)) →
    (p : Path) (r : Record) →
    Trusted image (eased_by image (among restored)) p →
    image.marked p ≡ false →
    core_at image p ≡ Some r → IsTrue (is_whole image p (kind_in r.recipe p)) → Holds act H image p

-- An input that isn't a source: the record that speaks for it has no mark, its output is whole, the input is there as a file of it, and
-- it is trusted, where these marks don't count in chains.
pub record IsTrustedInput (image : Image) (left_out : Path → Bool) (p : Path) : Type 0 where
  pub speaker : Path
  pub speaks : holder image p ≡ Some speaker
  pub as_file : IsTrue (bytes_eq speaker p || is_file image p)
  pub unmarked : image.marked speaker ≡ false
  pub whole : (r : Record) → core_at image speaker ≡ Some r → IsTrue (is_whole image speaker (kind_in r.recipe speaker))
  pub trusted : Trusted image (eased_by image left_out) speaker

-- What a job of a plan reads is a source or trusted where it is current, also while children run: only the marks of jobs that run as a
-- Restore are left out.
abbrev pub CurrentIsTrusted : Type 0
CurrentIsTrusted =
    (flow : Flow) (image : Image) (settings : Settings) (progress : Progress) (plan : Plan) →
    IsComplete image →
    HasValidRecords image →
    IsPlan flow image settings progress plan →
    (j : Job) (p : Path) →
    Contains plan.jobs j →
    Contains (in_paths j.recipe ++ gathers_from j) p →
    IsTrue (is_current image settings progress plan p) →
    IsTrue (is_source image p) ⊎ IsTrustedInput image (is_restored image settings progress plan) p

-- What runs is of the plan: each child has the outputs and logs of a job of the plan that the plan sees running, and what the plan takes
-- for outputs of running Restores are some.
pub record RunsAsPlanned (rules : Rules) (m : Moment) (plan : Plan) : Type 0 where
  pub children :
      (c : Child) →
      Contains m.world.children c →
      (j : Job)
      × Contains plan.jobs j
      × (out_paths c.recipe ≡ out_paths j.recipe)
      × (c.logs ≡ j.logs)
      × IsTrue (is_some (kept_state (seen rules m.world) rules.settings (progress_of m.world m.begun) plan j))
  pub restores :
      (h : Path) →
      IsTrue (is_restored (seen rules m.world) rules.settings (progress_of m.world m.begun) plan h) →
      IsTrue (among (restored rules m) h)

-- At a rest of a run, what a job of the plan in force reads is a safe input where it is current.
abbrev pub CurrentIsSafe : Type 0
CurrentIsSafe =
    (rules : Rules) (entry : World) (log : List Event) (m : Moment) (plan : Plan) →
    IsMoment rules entry log m →
    IsTrue (is_rest m.world m.begun) →
    m.plan ≡ Some plan →
    IsFormed m.world →
    RunsAsPlanned rules m plan →
    (j : Job) (p : Path) →
    Contains plan.jobs j →
    Contains (in_paths j.recipe ++ gathers_from j) p →
    IsTrue (is_current (seen rules m.world) rules.settings (progress_of m.world m.begun) plan p) → IsSafeInput rules m p

-- Where no child runs nothing is asked for that.
abbrev pub NoneRuns : Type 0
NoneRuns = (rules : Rules) (m : Moment) (plan : Plan) → m.world.children ≡ [] → RunsAsPlanned rules m plan
