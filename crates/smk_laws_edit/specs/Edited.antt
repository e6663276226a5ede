-- The plan after an edit: what it has to do leads to what was edited, or is wanted by what does.
use Rattle.std.specs.Prelude.{◌≡◌, ℕ, Bool, false, List, IsTrue, Some}
use Rattle.smk_world.specs.declared.event.Node.TheVariants.{Regular}
use Rattle.smk_world.specs.declared.event.Event.{Event}
use Rattle.smk_world.specs.World.{World, in_paths, run}
use Rattle.smk_world.specs.Devices.{Device, Sunk}
use Rattle.smk_world.specs.Trees.{Path, Act, IsIn}
use Rattle.smk_pattern.specs.Shapes.{Text}
use Rattle.smk_flow.specs.declared.job.Job.{Job}
use Rattle.smk_store.specs.Images.{is_source}
use Rattle.smk_laws_history.specs.Histories.{edited}
use Rattle.smk_trigger.specs.declared.reason.State.{State}
use Rattle.smk_trigger.specs.JobStates.{is_dirty, is_restore, is_to_run}
use Rattle.smk_plan.specs.States.{Plan, makes, staged}
use Rattle.smk_drive.specs.Moments.{Begun, Rules, begun_after}
use Rattle.smk_drive_course.specs.Keeping.{has_start}
use Rattle.smk_drive_course.specs.Moments.{AtEachEvent, starts}
use Rattle.smk_words_reading.specs.declared.asked.RunWords.{RunWords}
use Rattle.smk_cli_target.specs.declared.ending.Outcome.{Outcome}
use Rattle.smk_cli_target.specs.Ends.{IsGoodEntry}
use Rattle.smk_cli_target.specs.Files.{GoesBy, seen}
use Rattle.smk_cli_target.specs.Headline.{IsMet}
use Rattle.smk_cli_target.specs.Clauses.{IsPlanOf}
use Rattle.smk_cli_target.specs.Thrift.{HasDone, LeadsTo, MayStartAfter, is_job_of}

-- a job that is to run reads what it makes
abbrev pub IsRead : Plan → Job → Type 0
IsRead plan j = (e : Job × State) × (q : Path) × IsIn (staged plan) e × IsTrue (is_to_run e.1) × IsIn (in_paths e.0.recipe) q × IsTrue (makes j q)

-- Why a job is to run by the plan after an edit of the source p: it is Dirty and leads there, or a Restore that such a job, or one on the
-- way to it, reads.
pub data IsToRunFor (p : Path) (plan : Plan) (e : Job × State) : Type 0 where
  IsDownstream : IsTrue (is_dirty e.1) → LeadsTo plan.jobs p e.0 → IsToRunFor p plan e
  IsReadBack : IsTrue (is_restore e.1) → IsRead plan e.0 → IsToRunFor p plan e

-- What the plan after an edit of p has to do, by the plan before: no job is new, and each that is to run is so for p.
pub record PlansDownstream (p : Path) (before now : Plan) : Type 0 where
  pub none_new : (j : Job) → IsIn now.jobs j → IsTrue (is_job_of before j)
  pub for_it : (e : Job × State) → IsIn (staged now) e → IsTrue (is_to_run e.1) → IsToRunFor p now e

-- After a run without force that ended with status 0, and an edit of one source that isn't read for the workflow, the plan has nothing to do
-- but that.
abbrev pub AfterEditOnlyDownstream : Type 0
AfterEditOnlyDownstream =
    (act : Act) (words : List Text) (w : RunWords) (rules : Rules) (entry : World) (log : List Event) (before now : Plan) (p : Path)
    (bytes : List ℕ) (time : ℕ) (read_only : Bool) →
    HasDone act words w rules entry log →
    IsPlanOf rules (run entry log) before →
    IsTrue (is_source (seen (run entry log)) p) →
    IsPlanOf rules (edited (run entry log) p (Regular bytes time read_only)) now → PlansDownstream p before now

-- So the run that follows begins with it: where that is the plan of its entry, its first child is started of a job of that plan that is to run
-- so, while it is in force. Such a job may be started after the edit.
abbrev pub FirstStartIsDownstream : Type 0
FirstStartIsDownstream =
    (act : Act) (words : List Text) (w : RunWords) (rules : Rules) (entry : World) (log again : List Event) (before now : Plan) (p : Path)
    (bytes : List ℕ) (time : ℕ) (read_only : Bool) (outcome : Outcome) (old new : Device) (out_old out_new : Sunk) →
    HasDone act words w rules entry log →
    IsPlanOf rules (run entry log) before →
    IsTrue (is_source (seen (run entry log)) p) →
    IsGoodEntry act (edited (run entry log) p (Regular bytes time read_only)) →
    GoesBy w (edited (run entry log) p (Regular bytes time read_only)) rules →
    IsPlanOf rules (edited (run entry log) p (Regular bytes time read_only)) now →
    IsMet act words outcome old new out_old out_new (edited (run entry log) p (Regular bytes time read_only)) again →
    AtEachEvent rules (edited (run entry log) p (Regular bytes time read_only)) again (λ m e.
    (b : Begun) →
    has_start m.events ≡ false →
    IsIn (begun_after rules (edited (run entry log) p (Regular bytes time read_only)) m e) b →
    IsTrue (starts b.job e.call) → (m.plan ≡ Some now) × IsIn (staged now) (b.job, b.state) × IsToRunFor p now (b.job, b.state) × MayStartAfter p before now b)
