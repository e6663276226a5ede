-- How a call ends, over its entry and its log.
use Rattle.std.specs.Prelude.{◌≡◌, ◌≢◌, ◌⊎◌, ℕ, zero, suc, true, false, List, [], ◌∷◌, ◌++◌, Some, None, Ok, IsTrue, IsSome}
use Rattle.smk_base.specs.Place.{mark_place, lock_place}
use Rattle.smk_base.specs.declared.tree.Tree.{Tree}
use Rattle.smk_world.specs.declared.event.Event.{Event}
use Rattle.smk_world.specs.declared.event.Call.TheVariants.{Waited}
use Rattle.smk_world.specs.declared.event.Child.{Child}
use Rattle.smk_world.specs.World.{World, run, reading, out_paths, child_numbered}
use Rattle.smk_world.specs.Calls.{failed, ContentsAre}
use Rattle.smk_world.specs.Folders.{IsTree}
use Rattle.smk_world.specs.Trees.{Path, Act, Each, IsIn, first, folders_of}
use Rattle.smk_pattern.specs.Shapes.{Text}
use Rattle.smk_flow.specs.declared.job.Job.{Job}
use Rattle.smk_flow.specs.Flows.{rule_name}
use Rattle.smk_store.specs.Images.{tree_now}
use Rattle.smk_store.specs.Images as images
use Rattle.smk_store.specs.Trust.{Versions, SumsDiffer}
use Rattle.smk_store.specs.Soundness.{SoundWorld}
use Rattle.smk_laws_history.specs.Histories.{IsListed}
use Rattle.smk_chain.specs.Mean.{clean_value}
use Rattle.smk_trigger.specs.declared.reason.State.{State}
use Rattle.smk_trigger.specs.JobStates.{is_clean}
use Rattle.smk_plan.specs.States.{Plan, LastPlan, job_path, staged, is_spent, is_current}
use Rattle.smk_report.specs.declared.fault.Fault.{Fault}
use Rattle.smk_report.specs.declared.fault.Fault.TheVariants as fault
use Rattle.smk_report.specs.Lines.{Ending, Status, NoOutput, WrongKind, BadMember, target_line}
use Rattle.smk_drive.specs.Moments.{Rules, Moment, IsMoment, Begun, progress_of}
use Rattle.smk_drive.specs.Lawful.{failures, has_failed}
use Rattle.smk_drive_course.specs.RunReports.{IsRunText, HasLine}
use Rattle.smk_words_reading.specs.declared.asked.Asked.TheVariants.{Run, Preview}
use Rattle.smk_words_reading.specs.declared.asked.RunWords.{RunWords}
use Rattle.smk_words_reading.specs.Asks.{IsAsked}
pub use Rattle.smk_keep_lock.specs.Changing.{IsSame, Stays}
pub use Rattle.smk_keep_lock.specs.Putting.{Put}
use Rattle.smk_cli_target.specs.Files.{GoesBy, outside, seen, setting_at}

-- ## A call

-- What a call may begin with: a folder that is sound for some versions of its sources, of which no two different contents have the same
-- SHA-256; a tree; and it has no more in its directories than their records list.
pub record IsGoodEntry (act : Act) (w : World) : Type 0 where
  pub versions : Versions
  pub differ : SumsDiffer versions
  pub sound : SoundWorld (outside act) w versions
  pub tree : IsTree w
  pub listed : IsListed (outside act) w

-- P of what a run goes by, where the words ask for one and it goes by something
abbrev pub AsRun : List Text → World → (Rules → Type 0) → Type 0
AsRun words entry P = (w : RunWords) (rules : Rules) → IsAsked words (Run w) → GoesBy w entry rules → P rules

-- the same of a listing
abbrev pub AsListing : List Text → World → (Rules → Type 0) → Type 0
AsListing words entry P = (w : RunWords) (rules : Rules) → IsAsked words (Preview w) → GoesBy w entry rules → P rules

-- no event was answered Failed
abbrev pub AreQuiet : List Event → Type 0
AreQuiet log = Each (λ (e : Event). failed e.call ≡ false) log

abbrev pub HasFailedCall : List Event → Type 0
HasFailedCall log = (e : Event) × IsIn log e × IsTrue (failed e.call)

-- ## What is reported current

-- the path holds its clean value
abbrev pub IsClean : Act → Rules → World → Path → Type 0
IsClean act rules w p =
    (tree : Tree) × (tree_now (images.seen rules.read w) p ≡ Some tree) × (clean_value (setting_at act rules w) p ≡ Some tree)

-- each target with a line `current` holds its clean value
abbrev pub CurrentIsClean : Act → Rules → World → Text → Type 0
CurrentIsClean act rules w text = Each (λ p. HasLine text (target_line true p) → IsClean act rules w p) rules.settings.targets

-- a clean run gives each target
abbrev pub HasCleanTargets : Act → Rules → World → Type 0
HasCleanTargets act rules w = Each (λ p. IsSome (clean_value (setting_at act rules w) p)) rules.settings.targets

-- ## Status 0 or 1 of a run

-- By the plan of the exit, every job is Clean, every target is current, and no spent output is left.
pub record IsDone (rules : Rules) (entry : World) (log : List Event) : Type 0 where
  pub last : Moment
  pub plan : Plan
  pub is_last : IsMoment rules entry log last
  pub is_plan : LastPlan rules.flow (images.seen rules.read last.world) rules.settings (progress_of last.world last.begun) [] plan
  pub all_clean : Each (λ (s : State). IsTrue (is_clean s)) plan.states
  pub all_current :
      Each
      (λ p. IsTrue (is_current (images.seen rules.read last.world) rules.settings (progress_of last.world last.begun) plan p))
      rules.settings.targets
  pub none_spent :
      (p : Path) →
      Each
      (λ (e : Job × State). IsTrue (is_spent (images.seen rules.read last.world) rules.settings (progress_of last.world last.begun) plan e p) → tree_now (images.seen rules.read last.world) p ≡ None)
      (staged plan)

-- each mark that stands stood at the entry as it does now
abbrev pub HasNoNewMark : World → World → Type 0
HasNoNewMark entry exit = (p : Path) → IsTrue ((seen exit).marked p) → Stays (entry.nodes (mark_place p)) (exit.nodes (mark_place p))

-- A run that ends with status 0 or 1: the whole report; what it calls current is clean; with status 0 that is every target, and
-- all is done; with status 1 a job failed; no mark of its own stands, and the lock is gone.
pub record EndsWell (act : Act) (rules : Rules) (entry : World) (log : List Event) (status : ℕ) (text : Text) : Type 0 where
  pub report : IsRunText rules entry log text
  pub clean : CurrentIsClean act rules (run entry log) text
  pub all_told : status ≡ 0 → Each (λ p. HasLine text (target_line true p)) rules.settings.targets
  pub done : status ≡ 0 → IsDone rules entry log
  pub failed_one : status ≡ 1 → (m : Moment) → IsMoment rules entry log m → IsTrue (has_failed m)
  pub no_mark : HasNoNewMark entry (run entry log)
  pub no_lock : rules.nolock ≡ false → reading ((run entry log).nodes lock_place) ≡ None

-- ## Other statuses of a run

-- each mark that stands stood at the entry as it does now, or is that of a job with a directory output
abbrev pub HasOnlyFolderMarks : Rules → World → List Event → Type 0
HasOnlyFolderMarks rules entry log =
    (p : Path) (m : Moment) →
    IsTrue ((seen (run entry log)).marked p) →
    IsMoment rules entry log m →
    Stays (entry.nodes (mark_place p)) ((run entry log).nodes (mark_place p))
    ⊎ ((b : Begun) × IsIn m.begun b × IsIn (out_paths b.job.recipe) p × (folders_of b.job.recipe ≢ []))

-- ## Failed jobs

-- The job with this rule and first output was the first in this log that failed, and its child ended so: there is a moment at
-- which it alone had failed.
pub record HasEnded (rules : Rules) (entry : World) (log : List Event) (rule : Text) (path : Path) (end : Ending) : Type 0 where
  pub events : List Event
  pub rest : List Event
  pub split : log ≡ events ++ rest
  pub moment : Moment
  pub is_moment : IsMoment rules entry events moment
  pub failed : Begun
  pub alone : failures moment ≡ failed ∷ []
  pub of_rule : rule_name rules.flow failed.job.rule ≡ rule
  pub of_path : job_path failed.job ≡ path
  pub so : failed.ended ≡ Some end

-- the fault of a failed job is how its child ended, which is never status 0
abbrev pub FailedSo : Rules → World → List Event → Fault → Type 0
FailedSo rules entry log (fault.JobFailed rule path zero) = ⊥
FailedSo rules entry log (fault.JobFailed rule path (suc code)) = HasEnded rules entry log rule path (Status (suc code))
FailedSo rules entry log (fault.NoOutput rule path missing) = HasEnded rules entry log rule path (NoOutput missing)
FailedSo rules entry log (fault.WrongKind rule path wrong) = HasEnded rules entry log rule path (WrongKind wrong)
FailedSo rules entry log (fault.BadMember rule path bad) = HasEnded rules entry log rule path (BadMember bad)
FailedSo rules entry log f = ⊥

-- A child on the job with this first output ended with this status, which its command has on what stood at its inputs.
pub record HasOwnStatus (act : Act) (entry : World) (log : List Event) (path : Path) (code : ℕ) : Type 0 where
  pub before : List Event
  pub end : Event
  pub rest : List Event
  pub number : ℕ
  pub child : Child
  pub in_log : log ≡ before ++ end ∷ rest
  pub waited : end.call ≡ Waited (Ok (record { number = number; status = code }))
  pub ran : child_numbered number (run entry before).children ≡ Some child
  pub of_job : first (out_paths child.recipe) ≡ Some path
  pub given : (trees : List Tree) → ContentsAre (run entry before) child.recipe trees → (act child.recipe trees).status ≡ code
