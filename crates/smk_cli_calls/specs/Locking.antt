-- What a run does of the lock: it is taken before the plan is made, and released at the end.
use Rattle.std.specs.Prelude.{◌≡◌, true, false, List, [], Some, Result, Ok, Err, IsSome, is_err}
use Rattle.smk_base.specs.Place.{lock_place}
use Rattle.smk_world.specs.declared.event.Event.{Event}
use Rattle.smk_world.specs.declared.event.Failed.{Failed}
use Rattle.smk_world.specs.World.{World, run, reading}
use Rattle.smk_world.specs.Calls.{Rose}
use Rattle.smk_world.specs.Devices.{Device, Sunk, WhereTold, HasActed, AreLooks}
use Rattle.smk_world.specs.Runs.{Follows}
use Rattle.smk_world.specs.Trees.{Act}
use Rattle.smk_keep_lock.specs.Locking.{HasTaken, HasReleased}
use Rattle.smk_report.specs.declared.fault.Fault.{Fault}
use Rattle.smk_report.specs.declared.fault.Fault.TheVariants as fault
use Rattle.smk_words_reading.specs.declared.asked.RunWords.{RunWords}
use Rattle.smk_cli_entry.specs.declared.asking.Asked.{Asked}
use Rattle.smk_plan_preview.specs.declared.previewing.Previewed.{Previewed}
use Rattle.smk_cli_calls.specs.Serving.{Went}

-- the answer of a run once its lock was to be released: where that failed, and there was no fault before, it is the device's
abbrev pub with_release : Result (Unit {0}) Failed → Result (Unit {0}) Fault → Result (Unit {0}) Fault
with_release (Ok u) answer = answer
with_release (Err e) (Ok u) = Err fault.Device
with_release (Err e) (Err f) = Err f

module _ (act : Act) where
  -- looks led from the one folder to the other
  pub record IsAfterLooks (w v : World) : Type 0 where
    pub looks : List Event
    pub only_looks : AreLooks false looks
    pub follows : Follows act w looks
    pub is : v ≡ run w looks

  -- the lock was taken, and that led from the one folder to the other
  pub record IsOnceLocked (w v : World) : Type 0 where
    pub taking : List Event
    pub took : HasTaken (Ok true) w taking
    pub follows : Follows act w taking
    pub is : v ≡ run w taking

  -- What becomes of the lock after a run with this answer. It stays where the count of the device's faults rose meanwhile; else no child runs, and it is
  -- released.
  pub data IsClosed (ran answer : Result (Unit {0}) Fault) (locked left new : Device) : Type 0 where
    LockStays : Rose locked.faults left.faults → answer ≡ ran → new ≡ left → IsClosed ran answer locked left new
    LockGoes :
        (released : Result (Unit {0}) Failed) →
        ¬ (Rose locked.faults left.faults) →
        WhereTold left (λ v. v.children ≡ []) →
        HasActed act (HasReleased released) left new (is_err released) → answer ≡ with_release released ran → IsClosed ran answer locked left new

  module _ (words : RunWords) (answer : Result (Unit {0}) Fault) where
    -- A run came, where this refuses it, this is asked, and this is what is asked with its plan, and then the lock was released or stayed.
    pub record HasRunLocked
        (Refuses : Fault → Type 0) (Asks : Asked → Type 0) (Plans : Asked → Previewed → Type 0) (locked new : Device) (out_old out_new : Sunk) :
        Type 0 where
      pub ran : Result (Unit {0}) Fault
      pub left : Device
      pub went : Went act words ran Refuses Asks Plans locked left out_old out_new
      pub closed : IsClosed ran answer locked left new

    -- What comes from the lock on, in this folder, where this refuses a run in a folder, this is asked, and this is what is asked with its plan there.
    pub data HasHeeded
        (Refuses : World → Fault → Type 0) (Asks : Asked → Type 0) (Plans : World → Asked → Previewed → Type 0) (w : World) (old new : Device)
        (out_old out_new : Sunk) :
        Type 0 where
      -- there was no memory for the lock's place
      Unmade : answer ≡ Err fault.OutOfMemory → new ≡ old → out_new ≡ out_old → HasHeeded Refuses Asks Plans w old new out_old out_new
      -- the lock stood, and nothing is changed
      Stood :
          answer ≡ Err fault.Locked →
          IsSome (reading (w.nodes lock_place)) →
          HasActed act (HasTaken (Ok false)) old new false → out_new ≡ out_old → HasHeeded Refuses Asks Plans w old new out_old out_new
      -- a call failed
      Untaken :
          (e : Failed) →
          answer ≡ Err fault.Device →
          HasActed act (HasTaken (Err e)) old new true → out_new ≡ out_old → HasHeeded Refuses Asks Plans w old new out_old out_new
      -- it was taken, and the plan is that of the folder as it stands then
      Taken :
          (v : World) (locked : Device) →
          IsOnceLocked w v →
          locked.world ≡ Some v →
          HasActed act (HasTaken (Ok true)) old locked false →
          HasRunLocked (Refuses v) Asks (Plans v) locked new out_old out_new → HasHeeded Refuses Asks Plans w old new out_old out_new
