-- How outputs are made read-only, and temporary ones removed.
use Rattle.std.specs.Prelude.{◌≡◌, Bool, true, false, List, [], ◌∷◌, ◌++◌, Result, Ok, Err}
use Rattle.std.specs.List.{flat_map}
use Rattle.smk_world.specs.declared.event.Event.{Event}
use Rattle.smk_world.specs.World.{World}
use Rattle.smk_world.specs.Requests.{Request, HasDone, IsCutShort}
use Rattle.smk_world.specs.Requests.Request.{Protect, Settle}
use Rattle.smk_world.specs.Trees.{Path}
use Rattle.smk_store.specs.Steps.{remove_each}
use Rattle.smk_keep.specs.declared.fault.KeepFault.{KeepFault}
use Rattle.smk_keep.specs.declared.fault.KeepFault.TheVariants.{Device, OutOfMemory}

-- each is made read-only
abbrev pub protect_each : List Path → List Request
protect_each ps = flat_map (λ p. Protect p ∷ []) ps

-- each is made read-only, and then that is made firm
abbrev pub protect_requests : List Path → List Request
protect_requests ps = protect_each ps ++ Settle ps ∷ []

-- each is removed, and then that is made firm
abbrev pub removal_requests : List Path → List Request
removal_requests ps = remove_each ps ++ Settle ps ∷ []

-- which answers tell that the device failed
abbrev pub keep_failed : {T : Type 0} → Result T KeepFault → Bool
keep_failed (Ok t) = false
keep_failed (Err Device) = true
keep_failed (Err OutOfMemory) = false

-- The calls were carried out: all of them, or up to one that failed, or none where there was no memory.
abbrev pub HasTried : List Request → Result (Unit {0}) KeepFault → World → List Event → Type 0
HasTried requests (Ok u) w es = HasDone requests es
HasTried requests (Err Device) w es = IsCutShort requests es
HasTried requests (Err OutOfMemory) w es = es ≡ []
