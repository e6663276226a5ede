-- The calls of a job as a run of the protocol.
use Rattle.std.specs.Prelude.{◌≡◌, ◌≢◌, ◌⊎◌, ℕ, Bool, true, false, List, [], ◌∷◌, ◌++◌, filter, length, Result, Ok, Err}
use Rattle.smk_base.specs.Path.{is_at_or_under, own_folder}
use Rattle.smk_world.specs.declared.event.Event.{Event}
use Rattle.smk_world.specs.declared.event.NodeState.TheVariants.{Owned}
use Rattle.smk_world.specs.declared.recipe.Out.{Out}
use Rattle.smk_world.specs.World.{World, IsFormed}
use Rattle.smk_world.specs.Calls.{started_numbers}
use Rattle.smk_world.specs.Runs.{Follows}
use Rattle.smk_world.specs.Requests.{Request, HasDone, IsCutShort, Carries}
use Rattle.smk_world.specs.Trees.{Path, IsIn, Each, folders_of, is_path_text}
use Rattle.smk_record.specs.Records.{is_valid}
use Rattle.smk_record.specs.Spelling.{is_writable, ReadsRecords}
use Rattle.smk_store.specs.declared.fault.StoreFault.{StoreFault}
use Rattle.smk_store.specs.declared.fault.StoreFault.TheVariants.{StampSeen, Device, OutOfMemory}
use Rattle.smk_store.specs.Images.{seen}
use Rattle.smk_store.specs.Stores.{Known}
use Rattle.smk_store.specs.Loading.{IsStoreOf}
use Rattle.smk_store.specs.Unowned.{NoneOwned}
use Rattle.smk_store.specs.Forgetting.{HasForgotten}
use Rattle.smk_store.specs.Safety.{KeepsSound}
use Rattle.smk_store.specs.Soundness.{Outside}
use Rattle.smk_laws_protocol.specs.Forgetting.{Stage, Resting, Stopped, ForgetsAll}
use Rattle.smk_laws_protocol.specs.Protocol.{OpenJob, RunState, Marking, Running, Ended, MayBegin, HasSerial, Runs, outputs, record_of, runs}
use Rattle.smk_store_members.specs.Members.{AllIsFound}
use Rattle.smk_job.specs.declared.fault.CloseFault.{CloseFault}
use Rattle.smk_job.specs.Sights.{IsDone, IsAbandoned, IsUnclosed, AreLookedAt}
use Rattle.smk_job.specs.Jobs.{IsPart, Underway, underway, bare_bytes, is_long, begin_requests, abandon_requests}

-- an open job whose child has this number, as `begin` answers it
abbrev pub as_underway : OpenJob → ℕ → Underway
as_underway j number = underway j.recipe j.logs j.stamps j.serial number

-- no child owns a place in the engine's own folder
abbrev pub HasOwnFolder : World → Type 0
HasOwnFolder w = (q : Path) → is_at_or_under q own_folder ≡ true → w.nodes q ≡ Owned → ⊥

-- What `begin` and `abandon` carry out is a part of their calls.
abbrev pub CarriedIsPart : Type 0
CarriedIsPart = (rs : List Request) (ok : Bool) (es : List Event) → Carries rs ok es → IsPart rs es

-- All calls of `begin`, of a job that the protocol lets begin, are a run of the protocol after which its child runs.
abbrev pub BeginningRuns : Type 0
BeginningRuns =
    (o : Outside) (s : RunState) (j : OpenJob) (top number : ℕ) (command : List ℕ) (w : World) (es : List Event) →
    s.faulted ≡ false →
    s.steady ≡ true →
    MayBegin o s w j →
    HasSerial o s w j top →
    j.phase ≡ Marking →
    outputs j ≢ [] →
    HasOwnFolder w →
    Follows o.act w es →
    HasDone (begin_requests j.recipe j.logs command) es →
    started_numbers es ≡ number ∷ [] → Runs o s w es (record s { jobs = (record j { phase = Running number }) ∷ s.jobs; top = top })

-- Each part of them is a run of the protocol, also where its last call failed.
abbrev pub BeginningPartsRun : Type 0
BeginningPartsRun =
    (o : Outside) (s : RunState) (j : OpenJob) (top : ℕ) (command : List ℕ) (w : World) (es : List Event) →
    s.faulted ≡ false →
    s.steady ≡ true →
    MayBegin o s w j →
    HasSerial o s w j top →
    j.phase ≡ Marking →
    outputs j ≢ [] →
    HasOwnFolder w → Follows o.act w es → IsPart (begin_requests j.recipe j.logs command) es → (end : RunState) × Runs o s w es end

-- All calls of `abandon`, of an open job whose child has ended, are a run of the protocol that closes it.
abbrev pub AbandoningRuns : Type 0
AbandoningRuns =
    (o : Outside) (s : RunState) (js ks : List OpenJob) (j : OpenJob) (number status : ℕ) (w : World) (es : List Event) →
    s.jobs ≡ js ++ j ∷ ks →
    s.faulted ≡ false →
    j.phase ≡ Ended status →
    outputs j ≢ [] → Follows o.act w es → HasDone (abandon_requests (as_underway j number)) es → Runs o s w es (record s { jobs = js ++ ks })

-- Each part of them is a run of the protocol, also where its last call failed.
abbrev pub AbandoningPartsRun : Type 0
AbandoningPartsRun =
    (o : Outside) (s : RunState) (js ks : List OpenJob) (j : OpenJob) (number status : ℕ) (w : World) (es : List Event) →
    s.jobs ≡ js ++ j ∷ ks →
    s.faulted ≡ false →
    j.phase ≡ Ended status →
    outputs j ≢ [] → Follows o.act w es → IsPart (abandon_requests (as_underway j number)) es → (end : RunState) × Runs o s w es end

-- the job's record of the output can be written, and read as it was written: without members it is valid, writable and not too long
pub record IsRecordable (j : OpenJob) (p : Path) : Type 0 where
  pub valid : is_valid (record_of j p) ≡ true
  pub writable : is_writable (record_of j p) ≡ true
  pub short : is_long (length (bare_bytes j.serial j.recipe j.stamps p)) ≡ false

-- A job may be finished where records read as they are written, those of the job can be written, all that stands under its directories can be
-- found, and no child owns a place in the engine's folder.
pub record MayFinish (o : Outside) (w : World) (j : OpenJob) : Type 0 where
  pub reads : ReadsRecords o.read
  pub records : Each (IsRecordable j) (outputs j)
  pub found : Each (AllIsFound w.nodes) (folders_of j.recipe)
  pub formed : IsFormed w
  pub own_folder : HasOwnFolder w

-- All that `finish` does where it is done, of an open job whose child has ended with status 0, is a run of the protocol that closes it.
abbrev pub FinishingRuns : Type 0
FinishingRuns =
    (o : Outside) (s : RunState) (js ks : List OpenJob) (j : OpenJob) (number : ℕ) (w : World) (es : List Event) →
    s.jobs ≡ js ++ j ∷ ks →
    s.faulted ≡ false →
    j.phase ≡ Ended 0 → MayFinish o w j → Follows o.act w es → IsDone (as_underway j number) w es → Runs o s w es (record s { jobs = js ++ ks })

-- after a failed call: the children run on, and no other job goes on
abbrev pub stopped : Outside → RunState → RunState
stopped o s = record s { jobs = filter (runs o) s.jobs; faulted = true }

-- What `finish` does up to a call that failed is a run of the protocol that ends faulted.
abbrev pub FinishingPartsRun : Type 0
FinishingPartsRun =
    (o : Outside) (s : RunState) (js ks : List OpenJob) (j : OpenJob) (number : ℕ) (w : World) (es : List Event) →
    s.jobs ≡ js ++ j ∷ ks →
    s.faulted ≡ false → j.phase ≡ Ended 0 → MayFinish o w j → Follows o.act w es → IsUnclosed (as_underway j number) w es → Runs o s w es (stopped o s)

-- What it does up to want of memory is a run that changes nothing.
abbrev pub LookingRuns : Type 0
LookingRuns = (o : Outside) (s : RunState) (outs : List Out) (w : World) (es : List Event) → s.faulted ≡ false → AreLookedAt outs es → Runs o s w es s

-- All that it does where something is wrong with an output, the looks and then the calls of `abandon`, is a run that closes the job too.
abbrev pub LosingRuns : Type 0
LosingRuns =
    (o : Outside) (s : RunState) (js ks : List OpenJob) (j : OpenJob) (number : ℕ) (fault : CloseFault) (w : World) (es : List Event) →
    s.jobs ≡ js ++ j ∷ ks →
    s.faulted ≡ false →
    j.phase ≡ Ended 0 →
    outputs j ≢ [] → Follows o.act w es → IsAbandoned (as_underway j number) fault w es → Runs o s w es (record s { jobs = js ++ ks })

-- What `begin` does up to a call that failed is a run that ends faulted; the serial stays drawn.
abbrev pub BeginningFails : Type 0
BeginningFails =
    (o : Outside) (s : RunState) (j : OpenJob) (top : ℕ) (command : List ℕ) (w : World) (es : List Event) →
    s.faulted ≡ false →
    s.steady ≡ true →
    MayBegin o s w j →
    HasSerial o s w j top →
    j.phase ≡ Marking →
    outputs j ≢ [] →
    HasOwnFolder w → Follows o.act w es → IsCutShort (begin_requests j.recipe j.logs command) es → Runs o s w es (record (stopped o s) { top = top })

-- What `abandon` does up to a call that failed is a run that ends faulted.
abbrev pub AbandoningFails : Type 0
AbandoningFails =
    (o : Outside) (s : RunState) (js ks : List OpenJob) (j : OpenJob) (number status : ℕ) (w : World) (es : List Event) →
    s.jobs ≡ js ++ j ∷ ks →
    s.faulted ≡ false →
    j.phase ≡ Ended status →
    outputs j ≢ [] → Follows o.act w es → IsCutShort (abandon_requests (as_underway j number)) es → Runs o s w es (stopped o s)

-- ## Forgetting

-- where a run that forgets paths is after this answer
abbrev pub LeavesAt : Result Bool StoreFault → Stage → Type 0
LeavesAt (Ok was_known) stage = stage ≡ Resting
LeavesAt (Err (StampSeen q)) stage = stage ≡ Resting
LeavesAt (Err Device) stage = (stage ≡ Resting) ⊎ (stage ≡ Stopped)
LeavesAt (Err OutOfMemory) stage = stage ≡ Resting

-- What `forget` does is a run of the protocol of forgetting. It ends at rest, unless a call failed.
abbrev pub ForgettingRuns : Type 0
ForgettingRuns =
    (o : Outside) (store : List Known) (paths : List Path) (p : Path) (result : Result Bool StoreFault) (w : World) (es : List Event) →
    IsIn paths p →
    is_path_text p ≡ true →
    IsStoreOf (seen o.read w) store →
    NoneOwned w →
    Follows o.act w es → HasForgotten store p result w es → (stage : Stage) × ForgetsAll o paths Resting w es stage × LeavesAt result stage

-- no call failed
abbrev pub is_at_rest : Result Bool StoreFault → Bool
is_at_rest (Ok was_known) = true
is_at_rest (Err (StampSeen q)) = true
is_at_rest (Err Device) = false
is_at_rest (Err OutOfMemory) = true

-- So the log of `forget` keeps soundness; to its end, where no call failed.
abbrev pub ForgettingIsSafe : Type 0
ForgettingIsSafe =
    (o : Outside) (store : List Known) (paths : List Path) (p : Path) (result : Result Bool StoreFault) (w : World) (es : List Event) →
    IsIn paths p →
    is_path_text p ≡ true →
    IsStoreOf (seen o.read w) store →
    NoneOwned w → Follows o.act w es → HasForgotten store p result w es → KeepsSound o w es paths (is_at_rest result)
