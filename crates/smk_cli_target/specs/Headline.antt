-- What a program that meets the contract gives, whatever has come before.
use Rattle.std.specs.Prelude.{◌≡◌, ◌⊎◌, ℕ, Bool, true, false, List, [], ◌++◌, IsTrue, Some}
use Rattle.smk_base.specs.Path.{own_folder, is_at_or_under}
use Rattle.smk_world.specs.declared.event.Node.TheVariants.{Regular}
use Rattle.smk_world.specs.declared.event.Call.{Call as EventCall}
use Rattle.smk_world.specs.declared.event.Call.TheVariants.{Started}
use Rattle.smk_world.specs.declared.event.Event.{Event}
use Rattle.smk_world.specs.World.{World, Nodes, run, world_of, in_paths}
use Rattle.smk_world.specs.Devices.{Device, Sunk}
use Rattle.smk_world.specs.Folders.{IsLeft}
use Rattle.smk_world.specs.Runs.{Did, Follows}
use Rattle.smk_world.specs.Trees.{Path, Act, Each}
use Rattle.smk_pattern.specs.Shapes.{Text}
use Rattle.smk_store.specs.Images.{is_source}
use Rattle.smk_store.specs.Trust.{Versions}
use Rattle.smk_store.specs.Soundness.{EachImage}
use Rattle.smk_store.specs.Safety.{with_sources}
use Rattle.smk_laws_history.specs.Histories as histories
use Rattle.smk_laws_history.specs.Histories.{History, DifferInSums, IsHeld, IsNew, IsLater, can_stand, edited, removed, no_versions}
use Rattle.smk_report.specs.declared.fault.Fault.{Fault}
use Rattle.smk_report.specs.Lines.{target_line}
use Rattle.smk_drive.specs.Moments.{Rules, Moment}
use Rattle.smk_drive.specs.Lawful.{IsSafeInput}
use Rattle.smk_drive_course.specs.Moments.{AtEachEvent}
use Rattle.smk_drive_course.specs.Refusals.{ClashingRunRefuses}
use Rattle.smk_drive_course.specs.RunReports.{HasLine}
use Rattle.smk_record.specs.Reading.{record_in}
use Rattle.smk_cli_target.specs.declared.ending.Outcome.{Outcome}
use Rattle.smk_cli_target.specs.Files.{outside, seen}
use Rattle.smk_cli_target.specs.Ends.{IsGoodEntry, Put, AsRun, CurrentIsClean, HasCleanTargets}
use Rattle.smk_cli_target.specs.Refusing.{IsNamed}
use Rattle.smk_cli_target.specs.Clauses.{HasLog, HasText, AreToForget, AreSteady, IsSteady}

-- A call that meets the contract, in a folder that is told: the events of its log are ones that the world lets happen, and its clauses hold.
pub record IsMet (act : Act) (words : List Text) (outcome : Outcome) (old new : Device) (out_old out_new : Sunk) (entry : World) (log : List Event) : Type 0 where
  pub follows : Follows act entry log
  pub has_log : HasLog act words outcome old new out_old out_new entry log
  pub paths : List Path
  pub to_forget : AreToForget words paths

-- What its clauses say of a call's world and of its `out`.
pub record IsCalled (act : Act) (words : List Text) (outcome : Outcome) (old new : Device) (out_old out_new : Sunk) : Type 0 where
  pub log : Did act old.world new.world (HasLog act words outcome old new out_old out_new)
  pub text : Did act old.world new.world (λ entry log. Put out_old out_new (HasText act words outcome entry log))

-- The call led from a told folder to this one, by one log that meets the contract, and put a text by that log.
pub record HasLed (act : Act) (words : List Text) (outcome : Outcome) (old new : Device) (out_old out_new : Sunk) (exit : World) (bytes : Text) : Type 0 where
  pub entry : World
  pub log : List Event
  pub text : Text
  pub before : Text
  pub begins : old.world ≡ Some entry
  pub ends : exit ≡ run entry log
  pub was_put : out_old.put ≡ Some before
  pub is_put : bytes ≡ before ++ text
  pub met : IsMet act words outcome old new out_old out_new entry log
  pub has_text : HasText act words outcome entry log text

-- So the clauses give, where the folder and the bytes of `out` are told at the end.
abbrev pub ClausesAreMet : Type 0
ClausesAreMet =
    (act : Act) (words : List Text) (outcome : Outcome) (old new : Device) (out_old out_new : Sunk) (paths : List Path) (exit : World) (bytes : Text) →
    AreToForget words paths →
    IsCalled act words outcome old new out_old out_new →
    new.world ≡ Some exit → out_new.put ≡ Some bytes → HasLed act words outcome old new out_old out_new exit bytes

-- it was whole: it isn't a `--cleanup-metadata` in which the device failed
abbrev pub IsWhole : List Path → Device → Device → Type 0
IsWhole paths old new = (paths ≡ []) ⊎ IsSteady old.faults new.faults

-- A folder that came by calls that meet the contract, by edits of sources and of the workflow, by removals, and by crashes, which come after
-- any event of a call; with its versions: each world so far, in turn, has put its sources there.
pub data Came (act : Act) : World → Versions → Type 0 where
  Begin : (w : World) → IsNew w → Came act w (with_sources no_versions (seen w))
  Edit :
      (w : World) (H : Versions) (p : Path) (bytes : List ℕ) (time : ℕ) (read_only : Bool) →
      Came act w H →
      IsTrue (can_stand (seen w) p) →
      IsLater (seen w) time →
      IsTrue (is_source (seen (edited w p (Regular bytes time read_only))) p) →
      EachImage record_in (edited w p (Regular bytes time read_only)) (λ i. IsTrue (is_source i p)) →
      Came act (edited w p (Regular bytes time read_only)) (with_sources H (seen (edited w p (Regular bytes time read_only))))
  Remove :
      (w : World) (H : Versions) (p : Path) →
      Came act w H → is_at_or_under p own_folder ≡ false → Came act (removed w p) (with_sources H (seen (removed w p)))
  Call :
      (w : World) (H : Versions) (words : List Text) (outcome : Outcome) (old new : Device) (out_old out_new : Sunk) (log : List Event) →
      Came act w H →
      (met : IsMet act words outcome old new out_old out_new w log) →
      IsWhole met.paths old new → (run w log).children ≡ [] → Came act (run w log) (with_sources H (seen (run w log)))
  Crash :
      (w : World) (H : Versions) (words : List Text) (outcome : Outcome) (old new : Device) (out_old out_new : Sunk) (log events rest : List Event) (nodes : Nodes) →
      Came act w H →
      IsMet act words outcome old new out_old out_new w log →
      log ≡ events ++ rest → IsLeft (run w events) nodes → Came act (world_of nodes) (with_sources H (seen (world_of nodes)))

-- a source had these bytes in one of its worlds
abbrev pub HasHeld : (act : Act) (w : World) (H : Versions) → Came act w H → List ℕ → Type 0
HasHeld act _ _ (Begin w new) a = IsHeld (seen w) a
HasHeld act _ _ (Edit w H p bytes time read_only came can later now left) a =
    HasHeld act w H came a ⊎ IsHeld (seen (edited w p (Regular bytes time read_only))) a
HasHeld act _ _ (Remove w H p came outer) a = HasHeld act w H came a ⊎ IsHeld (seen (removed w p)) a
HasHeld act _ _ (Call w H words outcome old new out_old out_new log came met whole alone) a = HasHeld act w H came a ⊎ IsHeld (seen (run w log)) a
HasHeld act _ _ (Crash w H words outcome old new out_old out_new log events rest nodes came met split left) a =
    HasHeld act w H came a ⊎ IsHeld (seen (world_of nodes)) a

-- No two different contents that sources had in its worlds have the same SHA-256: the one premise on SHA-256.
abbrev pub SumsDifferIn : (act : Act) (w : World) (H : Versions) → Came act w H → Type 0
SumsDifferIn act w H came = DifferInSums (HasHeld act w H came)

-- it is one of a history in which these contents differ likewise
abbrev pub CameIsHistory : Type 0
CameIsHistory =
    (act : Act) (w : World) (H : Versions) (came : Came act w H) →
    SumsDifferIn act w H came → (past : History (outside act) w H) × histories.SumsDifferIn (outside act) w H past

-- and a good entry for the next call
abbrev pub CameIsGood : Type 0
CameIsGood = (act : Act) (w : World) (H : Versions) (came : Came act w H) → SumsDifferIn act w H came → IsGoodEntry act w

-- what a child is started on is finished: a source, or whole and trusted, without a mark, and no running child owns it
abbrev pub StartsOnFinished : Rules → Moment → EventCall → Type 0
StartsOnFinished rules m (Started recipe logs command r) = Each (IsSafeInput rules m) (in_paths recipe)
StartsOnFinished rules m call = Unit {0}

-- it is want of memory, or a refusal stands that is named, or that of a derivation whose own jobs clash
abbrev pub IsStopped : Rules → Outcome → World → List Event → Type 0
IsStopped rules outcome entry log = (outcome.status ≡ 5) ⊎ ((f : Fault) × (outcome.fault ≡ Some f) × (IsNamed f ⊎ ClashingRunRefuses rules entry log f))

-- What is so of a run.
pub record RunGives (act : Act) (rules : Rules) (outcome : Outcome) (old new : Device) (out_old out_new : Sunk) (entry : World) (log : List Event) (text : Text) : Type 0 where
  -- each target that it reports current holds what a clean run from the sources would give
  pub current : CurrentIsClean act rules (run entry log) text
  -- no job was started on an output of an unfinished job
  pub finished : AtEachEvent rules entry log (λ m e. StartsOnFinished rules m e.call)
  -- if a clean run gives its targets, it reports them all current, unless it is stopped so or a count of faults rose
  pub complete :
      AreSteady old new out_old out_new →
      HasCleanTargets act rules entry → Each (λ p. HasLine text (target_line true p)) rules.settings.targets ⊎ IsStopped rules outcome entry log

-- After any list of calls, edits of sources and of the workflow, failed jobs and crashes at any moment this is so of a run, if no two different
-- contents that sources had meanwhile have the same SHA-256.
abbrev pub Headline : Type 0
Headline =
    (act : Act) (w : World) (H : Versions) (words : List Text) (outcome : Outcome) (old new : Device) (out_old out_new : Sunk) (log : List Event) (text : Text) →
    (came : Came act w H) →
    SumsDifferIn act w H came →
    IsMet act words outcome old new out_old out_new w log →
    HasText act words outcome w log text → AsRun words w (λ rules. RunGives act rules outcome old new out_old out_new w log text)
