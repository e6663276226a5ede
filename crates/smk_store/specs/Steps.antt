-- The calls of the store's steps on a job, on the lock and on what was loaded, in order.
use Rattle.std.specs.Prelude.{◌≡◌, ℕ, Bool, false, List, [], ◌∷◌, ◌++◌, map, Result, Ok, Err, All, if◌then◌else◌}
use Rattle.std.specs.List.{flat_map}
use Rattle.smk_base.specs.Place.{record_place, mark_place, note_place, lock_place}
use Rattle.smk_world.specs.declared.event.Call.{Call}
use Rattle.smk_world.specs.declared.event.Call.TheVariants.{Created}
use Rattle.smk_world.specs.declared.event.Event.{Event}
use Rattle.smk_world.specs.declared.event.Failed.{Failed}
use Rattle.smk_world.specs.World.{World}
use Rattle.smk_world.specs.Calls.{IsUnused}
use Rattle.smk_world.specs.Devices.{Device, WhereTold}
use Rattle.smk_world.specs.Requests.{Request, Carries, HasDone}
use Rattle.smk_world.specs.Requests.Request.{Write, Create, Remove, MakeParents, Settle}
use Rattle.smk_world.specs.Trees.{Path}
use Rattle.smk_store.specs.declared.places.JobPlaces.{JobPlaces}

-- the places of a job with these outputs and logs
abbrev pub places_of : List Path → List Path → JobPlaces
places_of outputs logs = record {
  outputs = outputs;
  marks = map mark_place outputs;
  records = map record_place outputs;
  notes = map note_place logs;
  marking = map mark_place outputs ++ map note_place logs;
  dropping = outputs ++ map record_place outputs;
}

-- No running child owns or reads one of the places or anything under it, where the world is told.
abbrev pub AreUnused : Device → List Path → Type 0
AreUnused d places = WhereTold d (λ w. All (IsUnused w) places)

-- each is made, its folders before it
abbrev pub make_each : List Path → List Request
make_each places = flat_map (λ p. MakeParents p ∷ Create p ∷ []) places

abbrev pub remove_each : List Path → List Request
remove_each places = flat_map (λ p. Remove p ∷ []) places

-- each is written with the bytes of its place, its folders made before it
abbrev pub write_each : List Path → List (List ℕ) → List Request
write_each [] bytes = []
write_each (p ∷ places) [] = []
write_each (p ∷ places) (b ∷ bytes) = MakeParents p ∷ Write p b ∷ write_each places bytes

-- marks and notes are made, and then they are made firm together
abbrev pub mark_requests : JobPlaces → List Request
mark_requests places = make_each places.marking ++ Settle places.marking ∷ []

-- the records are written, and then they are made firm together
abbrev pub put_requests : JobPlaces → List (List ℕ) → List Request
put_requests places bytes = write_each places.records bytes ++ Settle places.records ∷ []

-- the records are removed, and then it is made firm that they and the outputs are as they are
abbrev pub drop_requests : JobPlaces → List Request
drop_requests places = remove_each places.records ++ Settle places.dropping ∷ []

-- the marks are removed, and then that is made firm
abbrev pub unmark_requests : JobPlaces → List Request
unmark_requests places = remove_each places.marks ++ Settle places.marks ∷ []

-- what a call that makes a file answered
abbrev pub made_by : Call → List Bool
made_by (Created p (Ok made)) = made ∷ []
made_by call = []

-- what the calls that make a file answered, in order
abbrev pub all_made : List Event → List Bool
all_made es = flat_map (λ e. made_by e.call) es

-- The lock is made, its folders before it, and where it wasn't there it is made firm; whether it wasn't there is the answer.
abbrev pub HasLocked : Result Bool Failed → World → List Event → Type 0
HasLocked (Ok made) w es =
    HasDone (make_each (lock_place ∷ []) ++ (if made then Settle (lock_place ∷ []) ∷ [] else [])) es × (all_made es ≡ made ∷ [])
HasLocked (Err e) w es = Carries (make_each (lock_place ∷ []) ++ Settle (lock_place ∷ []) ∷ []) false es

-- the lock is removed, and then that is made firm
abbrev pub unlock_requests : List Path → List Request
unlock_requests place = remove_each place ++ Settle place ∷ []
