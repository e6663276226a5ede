-- A run is safe: its events follow the protocol.
use Rattle.std.specs.Prelude.{◌≡◌, ℕ, true, List, [], ◌++◌, ◌∷◌, Ok}
use Rattle.smk_world.specs.declared.event.Call.TheVariants.{Settled}
use Rattle.smk_world.specs.declared.event.Event.{Event}
use Rattle.smk_world.specs.World.{World, Throughout, run}
use Rattle.smk_world.specs.Runs.{Follows}
use Rattle.smk_world.specs.Trees.{Path, Each}
use Rattle.smk_record.specs.Spelling.{ReadsRecords}
use Rattle.smk_store.specs.Soundness.{Outside, SoundWorld}
use Rattle.smk_store.specs.Trust.{Versions, SumsDiffer}
use Rattle.smk_laws_protocol.specs.Protocol.{RunState, Runs, HasAllMarks, IsLook, now}
use Rattle.smk_laws_protocol.specs.Midway.{IsTop, at_entry, HasSafeImages}
use Rattle.smk_run.specs.Stamps.{Serials}
use Rattle.smk_run.specs.Turns.{Turn, AreTurns, is_closed}
use Rattle.smk_safe.specs.Turning.{IsAtRest, AllAreFound}
use Rattle.smk_safe.specs.Ready.{AreReady, AreDoneButLast}

-- Where no two different contents of sources have the same SHA-256: turns that are ready, after a run of the protocol that came to rest, are a run of the protocol with it; to rest, where all jobs were closed.
abbrev pub ReadyTurnsAreRun : Type 0
ReadyTurnsAreRun =
    (o : Outside) (entry : World) (H : Versions) (top : ℕ) (before : List Event) (s : RunState) (made : Serials) (ts : List Turn) (es : List Event) →
    ReadsRecords o.read →
    SumsDiffer H →
    SoundWorld o entry H →
    IsTop o entry top →
    Follows o.act entry before →
    Runs o (at_entry o top) entry before s →
    IsAtRest s →
    s.top ≡ top →
    (run entry before).children ≡ [] →
    AreReady o (now o (run entry before)) made top ts →
    AreDoneButLast ts →
    Throughout (run entry before) es (AllAreFound ts) →
    Follows o.act (run entry before) es →
    AreTurns made ts (run entry before) es →
    (end : RunState) × Runs o (at_entry o top) entry (before ++ es) end × (Each (λ (t : Turn). is_closed t.course ≡ true) ts → IsAtRest end)

-- The events of a run: looks; then the marks and notes that were found are settled; and then come the turns.
pub record IsRunOf (o : Outside) (made : Serials) (ts : List Turn) (w : World) (es : List Event) : Type 0 where
  pub looks : List Event
  pub settling : Event
  pub turns : List Event
  pub events : es ≡ looks ++ settling ∷ turns
  pub only_look : Each (λ (e : Event). IsLook o e.call) looks
  pub places : List Path
  pub settles : settling.call ≡ Settled places (Ok tt)
  pub all_marks : HasAllMarks o (now o w) places
  pub have_turns : AreTurns made ts (run w (looks ++ settling ∷ [])) turns

-- What holds of a run from a sound folder: it follows the protocol; so after every prefix whatever a crash leaves is sound and has the sources of the entry; and
-- where all jobs were closed, no child runs at the end and the folder is sound.
pub record IsSafeRun (o : Outside) (entry : World) (H : Versions) (top : ℕ) (ts : List Turn) (es : List Event) : Type 0 where
  pub follows_protocol : (s : RunState) × Runs o (at_entry o top) entry es s
  pub throughout : (events rest : List Event) → es ≡ events ++ rest → HasSafeImages o entry (run entry events) H
  pub at_end : Each (λ (t : Turn). is_closed t.course ≡ true) ts → SoundWorld o (run entry es) H

-- A run of turns that are ready, by the folder as it was at the entry, is safe, where no two different contents of sources have the same
-- SHA-256.
abbrev pub RunIsSafe : Type 0
RunIsSafe =
    (o : Outside) (entry : World) (H : Versions) (top : ℕ) (made : Serials) (ts : List Turn) (es : List Event) →
    ReadsRecords o.read →
    SumsDiffer H →
    SoundWorld o entry H →
    IsTop o entry top →
    AreReady o (now o entry) made top ts →
    AreDoneButLast ts → Throughout entry es (AllAreFound ts) → Follows o.act entry es → IsRunOf o made ts entry es → IsSafeRun o entry H top ts es
