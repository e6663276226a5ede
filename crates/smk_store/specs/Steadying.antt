-- How the marks and notes that were loaded are made firm.
use Rattle.std.specs.Prelude.{◌≡◌, List, [], ◌∷◌, ◌++◌, if◌then◌else◌, Result, Ok, Err}
use Rattle.std.specs.List.{flat_map}
use Rattle.smk_base.specs.Place.{mark_place, note_place}
use Rattle.smk_world.specs.declared.event.Event.{Event}
use Rattle.smk_world.specs.World.{World}
use Rattle.smk_world.specs.Requests.{Request, HasDone, IsCutShort}
use Rattle.smk_world.specs.Requests.Request.{Settle}
use Rattle.smk_world.specs.Trees.{Path}
use Rattle.smk_store.specs.declared.fault.StoreFault.{StoreFault}
use Rattle.smk_store.specs.declared.fault.StoreFault.TheVariants.{StampSeen, Device, OutOfMemory}
use Rattle.smk_store.specs.Stores.{Known}

-- The calls were carried out: all of them, or up to one that failed, or none where there was no memory.
abbrev pub HasTried : List Request → Result (Unit {0}) StoreFault → World → List Event → Type 0
HasTried requests (Ok u) w es = HasDone requests es
HasTried requests (Err Device) w es = IsCutShort requests es
HasTried requests (Err OutOfMemory) w es = es ≡ []
HasTried requests (Err (StampSeen p)) w es = ⊥

-- the places of the path's mark and note, where they stand
abbrev pub signs_of : Known → List Path
signs_of k = (if k.entry.marked then mark_place k.path ∷ [] else []) ++ (if k.entry.noted then note_place k.path ∷ [] else [])

-- the places of all marks and notes
abbrev pub all_signs : List Known → List Path
all_signs ks = flat_map signs_of ks

-- they are made firm together
abbrev pub steady_requests : List Known → List Request
steady_requests ks = Settle (all_signs ks) ∷ []
