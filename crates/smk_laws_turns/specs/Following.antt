-- The events of a run with jobs side by side are a run of the protocol.
use Rattle.std.specs.Prelude.{◌≡◌, ◌⊎◌, ℕ, true, List, [], ◌++◌, Option, Result, IsTrue}
use Rattle.smk_world.specs.declared.event.Event.{Event}
use Rattle.smk_world.specs.World.{World, out_paths, run}
use Rattle.smk_world.specs.Runs.{Follows}
use Rattle.smk_world.specs.Trees.{Each, IsIn}
use Rattle.smk_record.specs.Spelling.{ReadsRecords}
use Rattle.smk_store.specs.Safety.{KeepsSound}
use Rattle.smk_store.specs.Soundness.{Outside, SoundWorld}
use Rattle.smk_store.specs.Trust.{SumsDiffer, Versions}
use Rattle.smk_laws_protocol.specs.Protocol.{RunState, Runs}
use Rattle.smk_laws_protocol.specs.Midway.{HasSafeImages, IsTop, at_entry}
use Rattle.smk_report.specs.declared.fault.Fault.{Fault}
use Rattle.smk_drive.specs.Lawful.{is_failed_wait}
use Rattle.smk_drive.specs.Moments.{Begun, Rules, greatest, seen}
use Rattle.smk_drive_course.specs.declared.ending.End.{End}
use Rattle.smk_drive_course.specs.Stands.{Stand}
use Rattle.smk_drive_course.specs.Steps.{Deed}
use Rattle.smk_drive_course.specs.Breaks.{Steps}
use Rattle.smk_drive_course.specs.Driven.{IsRun}
use Rattle.smk_laws_moments.specs.Opened.{IsStateOf}
use Rattle.smk_laws_moments.specs.Staying.{AreDerivedStill}

-- What a run is given: records that read as they are spelled, and an entry that is sound for these versions of the sources, of which no two different
-- contents have the same SHA-256; and no unmarked record of it names a greater serial than this.
pub record IsGiven (o : Outside) (rules : Rules) (entry : World) (H : Versions) (top : ℕ) : Type 0 where
  pub reader : rules.read ≡ o.read
  pub reads : ReadsRecords o.read
  pub differ : SumsDiffer H
  pub sound : SoundWorld o entry H
  pub is_top : IsTop o entry top

-- From the entry these events have come, by the protocol, to this state.
pub record HasCome (o : Outside) (entry : World) (top : ℕ) (events : List Event) (state : RunState) : Type 0 where
  pub follows : Follows o.act entry events
  pub runs : Runs o (at_entry o top) entry events state

-- what is to be made read-only of each job that has begun is among its outputs
abbrev pub GuardsAreOutputs : Stand → Type 0
GuardsAreOutputs s = Each (λ (b : Begun). Each (IsIn (out_paths b.job.recipe)) b.job.guards) s.begun

-- From this state these events lead, by the protocol, to a state of that stand.
pub record LeadsTo (o : Outside) (rules : Rules) (entry : World) (state : RunState) (w : World) (es : List Event) (t : Stand) : Type 0 where
  pub end : RunState
  pub runs : Runs o state w es end
  pub is_state : IsStateOf rules entry t end

-- What is so at a stand of a run: the protocol has come to a state of it; the jobs whose children run are those that the plans derive still; and what is to
-- be made read-only of each job is among its outputs.
pub record IsReached (o : Outside) (rules : Rules) (entry : World) (top : ℕ) (events : List Event) (s : Stand) : Type 0 where
  pub state : RunState
  pub come : HasCome o entry top events state
  pub is_state : IsStateOf rules entry s state
  pub derived : AreDerivedStill rules entry s
  pub guards : GuardsAreOutputs s

-- The steps of a run follow the protocol, from stand to stand.
abbrev pub StepsFollow : Type 0
StepsFollow =
    (o : Outside) (rules : Rules) (entry : World) (H : Versions) (top : ℕ) (before es : List Event) (s t : Stand) (deeds : List Deed)
    (at : IsReached o rules entry top before s) →
    IsGiven o rules entry H top →
    Steps rules entry s (run entry before) before es deeds t →
    Follows o.act (run entry before) es → (next : IsReached o rules entry top (before ++ es) t) × Runs o at.state (run entry before) es next.state

-- So does a whole run, from the greatest serial that an unmarked record of the entry names.
abbrev pub RunFollows : Type 0
RunFollows =
    (o : Outside) (rules : Rules) (entry : World) (H : Versions) (told : Option End) (result : Result End Fault) (deeds : List Deed) (log : List Event) →
    rules.read ≡ o.read →
    ReadsRecords o.read →
    SumsDiffer H →
    SoundWorld o entry H →
    Follows o.act entry log →
    IsRun rules told result deeds entry log → (end : RunState) × Runs o (at_entry o (greatest rules (seen rules entry))) entry log end

-- After every prefix of the events whatever a crash leaves is sound, and has the sources of the entry. At the end the world is sound too, unless a wait
-- failed, so that children are left.
pub record IsSafeRun (o : Outside) (entry : World) (H : Versions) (log : List Event) : Type 0 where
  pub throughout : (events rest : List Event) → log ≡ events ++ rest → HasSafeImages o entry (run entry events) H
  pub at_end : SoundWorld o (run entry log) H ⊎ ((e : Event) × IsIn log e × IsTrue (is_failed_wait e.call))

-- A run with jobs side by side is safe, where no two different contents of sources have the same SHA-256.
abbrev pub RunIsSafe : Type 0
RunIsSafe =
    (o : Outside) (rules : Rules) (entry : World) (H : Versions) (told : Option End) (result : Result End Fault) (deeds : List Deed) (log : List Event) →
    rules.read ≡ o.read →
    ReadsRecords o.read →
    SumsDiffer H →
    SoundWorld o entry H → Follows o.act entry log → IsRun rules told result deeds entry log → IsSafeRun o entry H log

-- So its log keeps what a call has to keep, to its end, and forgets no path.
abbrev pub RunKeepsSound : Type 0
RunKeepsSound =
    (o : Outside) (rules : Rules) (entry : World) (told : Option End) (result : Result End Fault) (deeds : List Deed) (log : List Event) →
    rules.read ≡ o.read → ReadsRecords o.read → Follows o.act entry log → IsRun rules told result deeds entry log → KeepsSound o entry log [] true
