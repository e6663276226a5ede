-- What is made before a job begins.
use Rattle.std.specs.Prelude.{◌≡◌, ℕ, true, false, List, [], ◌∷◌, map, length, Option, Some, None, Result, Ok, Err}
use Rattle.std.specs.List.{find}
use Rattle.smk_world.specs.declared.recipe.Out.{Out}
use Rattle.smk_world.specs.declared.recipe.Recipe.{Recipe}
use Rattle.smk_base.specs.Path.{is_path}
use Rattle.smk_world.specs.declared.event.Event.{Event}
use Rattle.smk_world.specs.declared.event.Failed.{Failed}
use Rattle.smk_world.specs.Calls.{started_numbers}
use Rattle.smk_world.specs.Requests.{HasDone, IsCutShort}
use Rattle.smk_world.specs.World.{World, owned_paths}
use Rattle.smk_world.specs.Trees.{Path, Each}
use Rattle.smk_record.specs.declared.record.Stamp.{Stamp}
use Rattle.smk_store.specs.Steps.{places_of}
use Rattle.smk_job.specs.declared.fault.BeginFault.{BeginFault}
use Rattle.smk_job.specs.declared.fault.BeginFault.TheVariants.{TooLong, Device, OutOfMemory}
use Rattle.smk_job.specs.declared.going.Ready.{Ready}
use Rattle.smk_job.specs.Jobs.{bare_bytes, is_long, too_long, IsReady, begin_requests}

-- these bytes, or a fault where they are too many
abbrev pub IsReserved : List ℕ → Result (List ℕ) BeginFault → Type 0
IsReserved bytes (Ok made) = (made ≡ bytes) × (is_long (length bytes) ≡ false)
IsReserved bytes (Err (TooLong n)) = (is_long (length bytes) ≡ true) × (n ≡ length bytes)
IsReserved bytes (Err Device) = ⊥
IsReserved bytes (Err OutOfMemory) = Unit {0}

-- the first length that is too much, of the records of these outputs
abbrev pub first_long : ℕ → Recipe → List Stamp → List Path → Option ℕ
first_long made recipe stamps paths = find is_long (map (λ p. length (bare_bytes made recipe stamps p)) paths)

-- the bytes of the records of these outputs, or a fault where one is too long
abbrev pub AreReserved : ℕ → Recipe → List Stamp → List Path → Result (List (List ℕ)) BeginFault → Type 0
AreReserved made recipe stamps paths (Ok records) = (records ≡ map (bare_bytes made recipe stamps) paths) × (first_long made recipe stamps paths ≡ None)
AreReserved made recipe stamps paths (Err (TooLong n)) = first_long made recipe stamps paths ≡ Some n
AreReserved made recipe stamps paths (Err Device) = ⊥
AreReserved made recipe stamps paths (Err OutOfMemory) = Unit {0}

-- it is made of these parts
pub record IsAssembled (recipe : Recipe) (logs : List Path) (stamps : List Stamp) (made : ℕ) (outs : List Out) (paths : List Path) (records : List (List ℕ)) (ready : Ready) : Type 0 where
  pub recipe_is : ready.recipe ≡ recipe
  pub logs_are : ready.logs ≡ logs
  pub stamps_are : ready.stamps ≡ stamps
  pub made_is : ready.made ≡ made
  pub outs_are : ready.outs ≡ outs
  pub at_places : ready.places ≡ places_of paths logs
  pub records_are : ready.records ≡ records

-- what a job with these parts needs
pub record IsReadyFor (recipe : Recipe) (logs : List Path) (stamps : List Stamp) (made : ℕ) (ready : Ready) : Type 0 where
  pub recipe_is : ready.recipe ≡ recipe
  pub logs_are : ready.logs ≡ logs
  pub stamps_are : ready.stamps ≡ stamps
  pub made_is : ready.made ≡ made
  pub rest : IsReady recipe logs stamps made ready.outs ready.places ready.records

-- all that the job needs, or a fault where a record is too long
abbrev pub HasReserved : Recipe → List Path → List Stamp → ℕ → Result Ready BeginFault → Type 0
HasReserved recipe logs stamps made (Ok ready) = IsReadyFor recipe logs stamps made ready × (too_long made recipe stamps ≡ None)
HasReserved recipe logs stamps made (Err (TooLong n)) = too_long made recipe stamps ≡ Some n
HasReserved recipe logs stamps made (Err Device) = ⊥
HasReserved recipe logs stamps made (Err OutOfMemory) = Unit {0}

-- that, and the places of outputs and logs, which are paths
abbrev pub HasAll : Recipe → List Path → List Stamp → ℕ → Result (Ready × List Path) BeginFault → Type 0
HasAll recipe logs stamps made (Ok (ready, owned)) =
    IsReadyFor recipe logs stamps made ready × (too_long made recipe stamps ≡ None)
    × (owned ≡ owned_paths recipe logs) × Each (λ p. is_path p ≡ true) (owned_paths recipe logs)
HasAll recipe logs stamps made (Err (TooLong n)) = too_long made recipe stamps ≡ Some n
HasAll recipe logs stamps made (Err Device) = ⊥
HasAll recipe logs stamps made (Err OutOfMemory) = Unit {0}

-- the calls up to the start, which answered this number; or those up to one that failed
abbrev pub HasLaunched : Recipe → List Path → List ℕ → Result ℕ Failed → World → List Event → Type 0
HasLaunched recipe logs command (Ok number) w es = HasDone (begin_requests recipe logs command) es × (started_numbers es ≡ number ∷ [])
HasLaunched recipe logs command (Err e) w es = IsCutShort (begin_requests recipe logs command) es
