-- Runs of the protocol one after another, as those of a call that takes the lock, runs jobs and releases it.
use Rattle.std.specs.Prelude.{◌≡◌, ℕ, Bool, true, false, List, [], ◌++◌}
use Rattle.smk_base.specs.Place.{lock_place}
use Rattle.smk_world.specs.declared.event.Event.{Event}
use Rattle.smk_world.specs.World.{World, run}
use Rattle.smk_world.specs.Requests.{Request, Carries}
use Rattle.smk_world.specs.Requests.Request.{Look, ReadUpTo, ListFolder, Write, Create, Remove, MakeParents, Settle, Protect, Start, Wait}
use Rattle.smk_world.specs.Runs.{Follows}
use Rattle.smk_world.specs.Trees.{Each}
use Rattle.smk_store.specs.Soundness.{Outside, SoundWorld}
use Rattle.smk_store.specs.Trust.{Versions, SumsDiffer}
use Rattle.smk_laws_protocol.specs.Protocol.{RunState, Runs}
use Rattle.smk_laws_protocol.specs.Midway.{IsTop, HasSafeImages, at_entry}
use Rattle.smk_laws_history.specs.Histories.{IsCall}

-- ## Calls on the lock

-- a call on the lock, or a settling
abbrev pub OnLock : Request → Type 0
OnLock (Look p) = ⊥
OnLock (ReadUpTo p limit) = ⊥
OnLock (ListFolder p) = ⊥
OnLock (Write p bytes) = ⊥
OnLock (Create p) = p ≡ lock_place
OnLock (Remove p) = p ≡ lock_place
OnLock (MakeParents p) = p ≡ lock_place
OnLock (Settle ps) = Unit {0}
OnLock (Protect p) = ⊥
OnLock (Start recipe logs command) = ⊥
OnLock Wait = ⊥

-- Carried out, or up to one that failed, they follow the protocol, whatever it has come to, unless a call has failed.
abbrev pub LockCallsAreRuns : Type 0
LockCallsAreRuns =
    (o : Outside) (rs : List Request) (ok : Bool) (s : RunState) (w : World) (es : List Event) →
    s.faulted ≡ false → Each OnLock rs → Carries rs ok es → (end : RunState) × Runs o s w es end

-- ## One run after another

-- the events are a run of the protocol from this folder
abbrev pub IsRun : Outside → World → List Event → Type 0
IsRun o w es = (top : ℕ) × IsTop o w top × ((s : RunState) × Runs o (at_entry o top) w es s)

-- The events are runs of the protocol one after another, each begun when no child of the one before is left.
pub data AreRuns (o : Outside) : World → List Event → Type 0 where
  One : (w : World) (es : List Event) → IsRun o w es → AreRuns o w es
  Then : (w : World) (es fs log : List Event) → IsRun o w es → (run w es).children ≡ [] → AreRuns o (run w es) fs → log ≡ es ++ fs → AreRuns o w log

-- From a sound folder whatever a crash leaves after a prefix of them is sound, and has the sources of the entry; and where no child is left, the folder is
-- sound.
pub record KeepSafe (o : Outside) (entry : World) (H : Versions) (log : List Event) : Type 0 where
  pub throughout : (events rest : List Event) → log ≡ events ++ rest → HasSafeImages o entry (run entry events) H
  pub at_end : (run entry log).children ≡ [] → SoundWorld o (run entry log) H

abbrev pub PartsAreSafe : Type 0
PartsAreSafe =
    (o : Outside) (entry : World) (H : Versions) (log : List Event) →
    SumsDiffer H → SoundWorld o entry H → Follows o.act entry log → AreRuns o entry log → KeepSafe o entry H log

-- And they are a call of a history.
abbrev pub PartsAreCall : Type 0
PartsAreCall = (o : Outside) (entry : World) (log : List Event) → Follows o.act entry log → AreRuns o entry log → IsCall o entry log [] true
