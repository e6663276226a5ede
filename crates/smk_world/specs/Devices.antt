-- Devices, and what a function did with one.
use Rattle.std.specs.Prelude.{◌≡◌, ℕ, Bool, true, false, not, List, [], ◌∷◌, ◌++◌, Option, Some, Result, Ok, Err, IsSome, OnOk, is_ok, is_err}
use Rattle.smk_world.specs.declared.event.Call.{Call}
use Rattle.smk_world.specs.declared.event.Call.TheVariants.{Looked, ReadFile, ReadFolder, Written, Created, Removed, MadeParents, Settled, Protected, Started, Waited}
use Rattle.smk_world.specs.declared.event.Event.{Event}
use Rattle.smk_world.specs.World.{World, IsFormed, numbers, without_number}
use Rattle.smk_world.specs.Calls.{Happened, HasCause, ArePut, HasOwners, failed}
use Rattle.smk_world.specs.Folders.{IsTree}
use Rattle.smk_world.specs.Requests.{Request, Carries}
use Rattle.smk_world.specs.Runs.{Did}
use Rattle.smk_world.specs.Trees.{Act}

-- ## Devices

-- All that is known of a working folder with its children: its world, where that is told, how often it has failed, and the numbers of the
-- running children.
pub record Device : Type 0 where
  pub world : Option World
  pub faults : ℕ
  pub running : List ℕ

-- All that is known of a sink: the bytes that were put, where they are told, and how often it has failed.
pub record Sunk : Type 0 where
  pub put : Option (List ℕ)
  pub faults : ℕ

-- P of the world, where it is told
abbrev pub WhereTold : Device → (World → Type 0) → Type 0
WhereTold d P = (w : World) → d.world ≡ Some w → P w

-- What is true of each device. Where its world is told, its running children have these numbers, its names rise and have each place where
-- something reads, what is owned is so by a running child, and what reads stands in folders.
pub record IsSoundDevice (d : Device) : Type 0 where
  pub same_numbers : WhereTold d (λ w. numbers w.children ≡ d.running)
  pub formed : WhereTold d IsFormed
  pub owned : WhereTold d HasOwners
  pub tree : WhereTold d IsTree

-- ## One call

abbrev pub running_after : Call → List ℕ → List ℕ
running_after (Looked p r) ns = ns
running_after (ReadFile p limit r) ns = ns
running_after (ReadFolder p r) ns = ns
running_after (Written p bytes r) ns = ns
running_after (Created p r) ns = ns
running_after (Removed p r) ns = ns
running_after (MadeParents p r) ns = ns
running_after (Settled ps r) ns = ns
running_after (Protected p r) ns = ns
running_after (Started recipe logs command (Ok number)) ns = ns ++ number ∷ []
running_after (Started recipe logs command (Err e)) ns = ns
running_after (Waited (Ok ended)) ns = without_number ended.number ns
running_after (Waited (Err e)) ns = ns

-- The device was called once: that event happened, a failure has its cause, and the running children are those after it.
pub record HasCalled (act : Act) (old new : Device) (call : Call) : Type 0 where
  pub world : Happened act old.world new.world call
  pub cause : HasCause old.faults new.faults (failed call)
  pub running : new.running ≡ running_after call old.running

-- it starts or ends no child
abbrev pub keeps_children : Call → Bool
keeps_children (Looked p r) = true
keeps_children (ReadFile p limit r) = true
keeps_children (ReadFolder p r) = true
keeps_children (Written p bytes r) = true
keeps_children (Created p r) = true
keeps_children (Removed p r) = true
keeps_children (MadeParents p r) = true
keeps_children (Settled ps r) = true
keeps_children (Protected p r) = true
keeps_children (Started recipe logs command r) = false
keeps_children (Waited r) = false

-- the same children run, where the world is told
abbrev pub SameChildren : Option World → Option World → Type 0
SameChildren old new = (w1 : World) → new ≡ Some w1 → (w0 : World) × (old ≡ Some w0) × (w1.children ≡ w0.children)

-- ## What a function did

-- Where the world is told now, these events lead to it, which are in P with the world before; it is told on unless the device failed; that has its cause; and the same children
-- run.
pub record HasActed (act : Act) (P : World → List Event → Type 0) (old new : Device) (failure : Bool) : Type 0 where
  pub did : Did act old.world new.world P
  pub stays : failure ≡ false → IsSome old.world → IsSome new.world
  pub cause : HasCause old.faults new.faults failure
  pub running : new.running ≡ old.running
  pub children : SameChildren old.world new.world

-- The same where children may have been started and ended: none runs at the end, unless the device failed.
pub record HasEnded (act : Act) (P : World → List Event → Type 0) (old new : Device) (failure : Bool) : Type 0 where
  pub did : Did act old.world new.world P
  pub stays : failure ≡ false → IsSome old.world → IsSome new.world
  pub cause : HasCause old.faults new.faults failure
  pub idle : failure ≡ false → new.running ≡ []

-- The calls were carried out: all of them, or up to one that failed.
pub record HasCarried (act : Act) (rs : List Request) (old new : Device) (failure : Bool) : Type 0 where
  pub acted : HasActed act (λ w es. Carries rs (not failure) es) old new failure

-- a look, which leaves all as it is
abbrev pub is_look : Call → Bool
is_look (Looked p r) = true
is_look (ReadFile p limit r) = true
is_look (ReadFolder p r) = true
is_look (Written p bytes r) = false
is_look (Created p r) = false
is_look (Removed p r) = false
is_look (MadeParents p r) = false
is_look (Settled ps r) = false
is_look (Protected p r) = false
is_look (Started recipe logs command r) = false
is_look (Waited r) = false

-- these are looks; none of them failed, or the last one did and no other
abbrev pub AreLooks : Bool → List Event → Type 0
AreLooks failure [] = failure ≡ false
AreLooks failure (e ∷ []) = (is_look e.call ≡ true) × (failed e.call ≡ failure)
AreLooks failure (e ∷ (f ∷ es)) = (is_look e.call ≡ true) × (failed e.call ≡ false) × AreLooks failure (f ∷ es)

-- Looks were made, and nothing else happened.
pub record HasLooked (act : Act) (old new : Device) (failure : Bool) : Type 0 where
  pub acted : HasActed act (λ w es. AreLooks failure es) old new failure

-- ## Sinks

-- The sink was called once with these bytes: they were put, a failure has its cause, and without one the count stays.
pub record HasPut {T E : Type 0} (old new : Sunk) (bytes : List ℕ) (result : Result T E) : Type 0 where
  pub put : ArePut old.put new.put bytes (is_ok result)
  pub cause : HasCause old.faults new.faults (is_err result)
  pub quiet : OnOk result (new.faults ≡ old.faults)
