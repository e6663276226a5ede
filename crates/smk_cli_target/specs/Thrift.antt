-- What a second run starts: statements on two calls that meet the contract, one after the other.
use Rattle.std.specs.Prelude.{◌≡◌, ◌⊎◌, ℕ, Bool, true, false, List, ◌++◌, IsTrue, Some}
use Rattle.std.specs.List.{list_any}
use Rattle.smk_world.specs.declared.event.Node.TheVariants.{Regular}
use Rattle.smk_world.specs.declared.event.Event.{Event}
use Rattle.smk_world.specs.World.{World, run, in_paths, out_paths}
use Rattle.smk_world.specs.Devices.{Device, Sunk}
use Rattle.smk_world.specs.Trees.{Path, Act, IsIn, among}
use Rattle.smk_pattern.specs.Shapes.{Text}
use Rattle.smk_flow.specs.declared.job.Job.{Job}
use Rattle.smk_record.specs.declared.record.Record.{Record}
use Rattle.smk_record.specs.declared.record.Stamp.TheVariants.{Time}
use Rattle.smk_record.specs.Records.{stamped}
use Rattle.smk_store.specs.Images.{Content, Image, core_at, is_source, source_at}
use Rattle.smk_store.specs.Trust.{is_summed}
use Rattle.smk_laws_history.specs.Histories.{IsLater, edited}
use Rattle.smk_trigger.specs.declared.reason.State.{State}
use Rattle.smk_trigger.specs.JobStates.{is_clean, is_restore}
use Rattle.smk_pick.specs.declared.settings.Force.TheVariants.{No}
use Rattle.smk_plan.specs.States.{Plan, gathers_from, job_path, makes, staged}
use Rattle.smk_drive.specs.Moments.{Rules, Moment, Begun, IsMoment, begun_after}
use Rattle.smk_drive_course.specs.Moments.{AtEachEvent, starts}
use Rattle.smk_drive_course.specs.Keeping.{has_start}
use Rattle.smk_words_reading.specs.declared.asked.Asked.TheVariants.{Run}
use Rattle.smk_cli_target.specs.declared.ending.Outcome.{Outcome}
use Rattle.smk_words_reading.specs.declared.asked.RunWords.{RunWords}
use Rattle.smk_words_reading.specs.Asks.{IsAsked}
use Rattle.smk_cli_target.specs.Files.{GoesBy, seen}
use Rattle.smk_cli_target.specs.Ends.{IsGoodEntry}
use Rattle.smk_cli_target.specs.Clauses.{HasText, IsPlanOf}
use Rattle.smk_cli_target.specs.Headline.{IsMet}

-- A run of these words, without force, that ended with status 0, and the text that it put.
pub record HasDone (act : Act) (words : List Text) (w : RunWords) (rules : Rules) (entry : World) (log : List Event) : Type 0 where
  pub good : IsGoodEntry act entry
  pub asked : IsAsked words (Run w)
  pub unforced : w.force ≡ No
  pub goes_by : GoesBy w entry rules
  pub outcome : Outcome
  pub old : Device
  pub new : Device
  pub out_old : Sunk
  pub out_new : Sunk
  pub text : Text
  pub met : IsMet act words outcome old new out_old out_new entry log
  pub has_text : HasText act words outcome entry log text
  pub done : outcome.status ≡ 0

-- A second run with the same words, where the files still say the same and nothing has changed between, starts no child, however it ends.
abbrev pub NextRunStartsNone : Type 0
NextRunStartsNone =
    (act : Act) (words : List Text) (w : RunWords) (rules : Rules) (entry : World) (log again : List Event)
    (outcome : Outcome) (old new : Device) (out_old out_new : Sunk) →
    HasDone act words w rules entry log →
    GoesBy w (run entry log) rules → IsMet act words outcome old new out_old out_new (run entry log) again → has_start again ≡ false

-- ## After sources were touched

-- A source of at most 1,048,576 bytes stood there; now it stands there with the same bytes, whatever its time.
pub record IsTouchedAt (before after : Image) (p : Path) : Type 0 where
  pub source : Content
  pub time : ℕ
  pub stood : source_at before p ≡ Some source
  pub small : is_summed source.bytes ≡ true
  pub stands : after.node p ≡ Some (Regular source.bytes time source.read_only)

-- All stands as it did, but for times of such sources.
pub record IsTouched (before after : Image) : Type 0 where
  pub nodes : (p : Path) → (after.node p ≡ before.node p) ⊎ IsTouchedAt before after p
  pub names : after.names ≡ before.names
  pub kept : after.kept ≡ before.kept
  pub marked : after.marked ≡ before.marked
  pub noted : after.noted ≡ before.noted

-- No record of an output of the plan tells of such a source by its time alone. A run writes none that does, and one of format 1 always does.
abbrev pub TellSums : Image → Plan → Type 0
TellSums image plan =
    (j : Job) (o : Path) (r : Record) (q : Path) (t : ℕ) (f : Content) →
    IsIn plan.jobs j →
    IsIn (out_paths j.recipe) o →
    core_at image o ≡ Some r → IsIn (stamped r) (q, Time t) → source_at image q ≡ Some f → is_summed f.bytes ≡ false

-- After a run of these words, without force, that ended with status 0, and with records that tell each small source by its SHA-256, sources may
-- be touched: where the files still say the same, a second run with the same words starts no child, however it ends.
abbrev pub TouchedStartsNone : Type 0
TouchedStartsNone =
    (act : Act) (words : List Text) (w : RunWords) (rules : Rules) (entry : World) (log again : List Event) (plan : Plan) (v : World)
    (outcome : Outcome) (old new : Device) (out_old out_new : Sunk) →
    HasDone act words w rules entry log →
    IsPlanOf rules (run entry log) plan →
    TellSums (seen (run entry log)) plan →
    IsTouched (seen (run entry log)) (seen v) →
    IsGoodEntry act v → GoesBy w v rules → IsMet act words outcome old new out_old out_new v again → has_start again ≡ false

-- ## After an edit

abbrev pub wants_of : Job → List Path
wants_of j = in_paths j.recipe ++ gathers_from j

-- a chain of wants leads from the job to the path, through jobs of the plan
pub data LeadsTo (jobs : List Job) (p : Path) : Job → Type 0 where
  Wants : (j : Job) → IsTrue (among (wants_of j) p) → LeadsTo jobs p j
  Through : (j k : Job) (q : Path) → IsIn jobs k → IsTrue (among (wants_of j) q) → IsTrue (makes k q) → LeadsTo jobs p k → LeadsTo jobs p j

abbrev pub is_job_of : Plan → Job → Bool
is_job_of plan j = list_any (λ (k : Job). among (out_paths k.recipe) (job_path j)) plan.jobs

-- the job makes what a job wants that isn't Clean now, or that was not in the plan of the run before
abbrev pub IsWantedAnew : Plan → Plan → Job → Type 0
IsWantedAnew before now j =
    (e : Job × State) × (q : Path) × IsIn (staged now) e × IsTrue (among (wants_of e.0) q) × IsTrue (makes j q)
    × ((is_clean e.1 ≡ false) ⊎ (is_job_of before e.0 ≡ false))

-- Why a job may be started after an edit of the source p: it leads there; it wasn't in the plan before; or it restores what is wanted anew.
pub data MayStartAfter (p : Path) (before now : Plan) (b : Begun) : Type 0 where
  LeadsThere : LeadsTo now.jobs p b.job → MayStartAfter p before now b
  IsNew : is_job_of before b.job ≡ false → MayStartAfter p before now b
  Restores : IsTrue (is_restore b.state) → IsWantedAnew before now b.job → MayStartAfter p before now b

-- After an edit of one source that isn't read for the workflow, only such jobs are started.
abbrev pub EditStartsDownstream : Type 0
EditStartsDownstream =
    (act : Act) (words : List Text) (w : RunWords) (rules : Rules) (entry : World) (log again : List Event) (last : Moment) (before : Plan)
    (p : Path) (bytes : List ℕ) (time : ℕ) (read_only : Bool) (outcome : Outcome) (old new : Device) (out_old out_new : Sunk) →
    HasDone act words w rules entry log →
    IsMoment rules entry log last →
    last.plan ≡ Some before →
    IsTrue (is_source (seen (run entry log)) p) →
    IsLater (seen (run entry log)) time →
    GoesBy w (edited (run entry log) p (Regular bytes time read_only)) rules →
    IsMet act words outcome old new out_old out_new (edited (run entry log) p (Regular bytes time read_only)) again →
    AtEachEvent rules (edited (run entry log) p (Regular bytes time read_only)) again (λ m e.
    (now : Plan) (b : Begun) →
    m.plan ≡ Some now →
    IsIn (begun_after rules (edited (run entry log) p (Regular bytes time read_only)) m e) b → IsTrue (starts b.job e.call) → MayStartAfter p before now b)
