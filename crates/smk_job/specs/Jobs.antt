-- One job: its records, when it may begin and be closed, and its calls in order.
use Rattle.std.specs.Prelude.{◌≡◌, ◌⊎◌, ℕ, Bool, true, false, List, [], ◌∷◌, ◌++◌, map, length, nat_lt, Option, Some, None, Result, Ok, Err, IfOk, All}
use Rattle.std.specs.List.{flat_map, find}
use Rattle.smk_base.specs.Path.{is_path}
use Rattle.smk_world.specs.declared.event.Event.{Event}
use Rattle.smk_world.specs.declared.recipe.Out.{Out}
use Rattle.smk_world.specs.declared.recipe.Recipe.{Recipe}
use Rattle.smk_world.specs.World.{World, in_paths, out_paths, owned_paths, is_within}
use Rattle.smk_world.specs.Calls.{IsUnused, owned_now, used_now, any_overlap, are_apart, started_numbers, failed}
use Rattle.smk_world.specs.Requests.{Request, request, HasDone, IsCutShort}
use Rattle.smk_world.specs.Requests.Request.{MakeParents, Settle, Start}
use Rattle.smk_world.specs.Trees.{Path, Each, outs_of}
use Rattle.smk_record.specs.declared.record.Stamp.{Stamp}
use Rattle.smk_record.specs.declared.record.Member.{Member}
use Rattle.smk_record.specs.Records.{record_of, is_valid}
use Rattle.smk_record.specs.Spelling.{spelling}
use Rattle.smk_store.specs.declared.places.JobPlaces.{JobPlaces}
use Rattle.smk_store.specs.Steps.{places_of, remove_each, mark_requests, put_requests, drop_requests, unmark_requests}
use Rattle.smk_job.specs.declared.fault.BeginFault.{BeginFault}
use Rattle.smk_job.specs.declared.fault.BeginFault.TheVariants.{TooLong, Device, OutOfMemory}

-- A job whose child was started with this number: the stamps of its inputs and the serial are those of its records.
pub record Underway : Type 0 where
  pub recipe : Recipe
  pub logs : List Path
  pub stamps : List Stamp
  pub made : ℕ
  pub number : ℕ

abbrev pub underway : Recipe → List Path → List Stamp → ℕ → ℕ → Underway
underway recipe logs stamps made number = record { recipe = recipe; logs = logs; stamps = stamps; made = made; number = number }

-- ## Records

-- the bytes of an output's record, but for its members
abbrev pub bare_bytes : ℕ → Recipe → List Stamp → Path → List ℕ
bare_bytes made recipe stamps p = spelling (record_of p made recipe stamps [])

-- more bytes than a record without members may have
abbrev pub is_long : ℕ → Bool
is_long n = nat_lt 1048576 n

-- how many bytes the first record has that is too long without its members
abbrev pub too_long : ℕ → Recipe → List Stamp → Option ℕ
too_long made recipe stamps = find is_long (map (λ p. length (bare_bytes made recipe stamps p)) (out_paths recipe))

-- the bytes of the records of these outputs, each with its members
abbrev pub bytes_with : Underway → List Path → List (List Member) → List (List ℕ)
bytes_with j [] members = []
bytes_with j (p ∷ ps) [] = []
bytes_with j (p ∷ ps) (m ∷ members) = spelling (record_of p j.made j.recipe j.stamps m) ∷ bytes_with j ps members

-- What is at hand to close a job: its outputs, their places, and the bytes of their records without members, which are valid.
pub record IsReady (recipe : Recipe) (logs : List Path) (stamps : List Stamp) (made : ℕ) (outs : List Out) (places : JobPlaces) (records : List (List ℕ)) : Type 0 where
  pub outputs : outs ≡ outs_of recipe
  pub at_places : places ≡ places_of (out_paths recipe) logs
  pub bytes : records ≡ map (bare_bytes made recipe stamps) (out_paths recipe)
  pub valid : Each (λ p. is_valid (record_of p made recipe stamps []) ≡ true) (out_paths recipe)

-- ## When a job may begin, and be closed

-- what running children own or read are users' paths
abbrev pub ReadUsers : World → Type 0
ReadUsers w = Each (λ p. is_path p ≡ true) (used_now w.children)

-- Running children leave room for a job: none owns an input, none owns or reads what overlaps an output or a log; and outputs and logs don't overlap
-- one another.
pub record LetsBegin (w : World) (recipe : Recipe) (logs : List Path) : Type 0 where
  pub inputs : All (λ p. is_within p (owned_now w.children) ≡ false) (in_paths recipe)
  pub apart : any_overlap (owned_paths recipe logs) (used_now w.children) ≡ false
  pub own_apart : are_apart (owned_paths recipe logs) ≡ true
  pub users : ReadUsers w

-- No running child owns or reads what overlaps an output.
pub record LetsClose (w : World) (recipe : Recipe) : Type 0 where
  pub apart : any_overlap (out_paths recipe) (used_now w.children) ≡ false
  pub users : ReadUsers w

-- No running child owns or reads what is at or under one of the job's outputs, records and marks.
pub record AreFree (places : JobPlaces) (w : World) : Type 0 where
  pub outputs : All (IsUnused w) places.outputs
  pub records : All (IsUnused w) places.records
  pub marks : All (IsUnused w) places.marks

-- ## Calls

abbrev pub parents_each : List Path → List Request
parents_each places = flat_map (λ p. MakeParents p ∷ []) places

-- outputs are removed, and folders of outputs and logs are made
abbrev pub clear_requests : List Path → List Path → List Request
clear_requests outputs owned = remove_each outputs ++ parents_each owned

-- marks and notes are made and settled; outputs are removed, and folders of outputs and logs are made; the command is started
abbrev pub begin_requests : Recipe → List Path → List ℕ → List Request
begin_requests recipe logs command =
    (mark_requests (places_of (out_paths recipe) logs) ++ clear_requests (out_paths recipe) (owned_paths recipe logs))
    ++ Start recipe logs command ∷ []

-- outputs are settled; their records are written and settled
abbrev pub put_all_requests : JobPlaces → List (List ℕ) → List Request
put_all_requests places bytes = Settle places.outputs ∷ put_requests places bytes

-- then marks are removed, and that is settled
abbrev pub keep_requests : JobPlaces → List (List ℕ) → List Request
keep_requests places bytes = put_all_requests places bytes ++ unmark_requests places

-- outputs and records are removed and settled
abbrev pub drop_all_requests : JobPlaces → List Request
drop_all_requests places = remove_each places.outputs ++ drop_requests places

-- then marks are removed, and that is settled
abbrev pub lose_requests : JobPlaces → List Request
lose_requests places = drop_all_requests places ++ unmark_requests places

abbrev pub places : Underway → JobPlaces
places j = places_of (out_paths j.recipe) j.logs

-- the calls of a job that is finished with these members of its directories
abbrev pub finish_requests : Underway → List (List Member) → List Request
finish_requests j members = keep_requests (places j) (bytes_with j (out_paths j.recipe) members)

-- the calls of a job that is abandoned
abbrev pub abandon_requests : Underway → List Request
abandon_requests j = lose_requests (places j)

-- The events are the first of these calls, in order; only the last event may be one that failed.
abbrev pub IsPart : List Request → List Event → Type 0
IsPart rs [] = Unit {0}
IsPart [] (e ∷ es) = ⊥
IsPart (r ∷ rs) (e ∷ es) = (request e.call ≡ r) × (((failed e.call ≡ true) × (es ≡ [])) ⊎ ((failed e.call ≡ false) × IsPart rs es))

-- ## What `begin` answers and does

-- what it may answer, where this is too long
abbrev pub MayAnswer : {T : Type 0} → Option ℕ → Result T BeginFault → Type 0
MayAnswer long (Ok going) = long ≡ None
MayAnswer long (Err (TooLong bytes)) = long ≡ Some bytes
MayAnswer long (Err Device) = long ≡ None
MayAnswer long (Err OutOfMemory) = Unit {0}

-- What it answers: the job with these parts, underway; or why it doesn't begin.
pub record IsBegunFor (recipe : Recipe) (logs : List Path) (stamps : List Stamp) (made : ℕ) (result : Result Underway BeginFault) : Type 0 where
  pub going : IfOk result (λ going. going ≡ underway recipe logs stamps made going.number)
  pub long : MayAnswer (too_long made recipe stamps) result

-- the device failed
abbrev pub begin_failed : {T : Type 0} → Result T BeginFault → Bool
begin_failed (Ok going) = false
begin_failed (Err (TooLong bytes)) = false
begin_failed (Err Device) = true
begin_failed (Err OutOfMemory) = false

-- all its calls, the last of which answered the number of the child; or those up to one that failed; or none
abbrev pub HasBegun : Recipe → List Path → List ℕ → Result Underway BeginFault → World → List Event → Type 0
HasBegun recipe logs command (Ok going) w es = HasDone (begin_requests recipe logs command) es × (started_numbers es ≡ going.number ∷ [])
HasBegun recipe logs command (Err (TooLong bytes)) w es = es ≡ []
HasBegun recipe logs command (Err Device) w es = IsCutShort (begin_requests recipe logs command) es
HasBegun recipe logs command (Err OutOfMemory) w es = es ≡ []
