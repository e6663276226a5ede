-- The protocol of a run: which events may come, by the phases of the jobs that are open. It keeps every crash image sound.
use Rattle.std.specs.Prelude.{◌≡◌, ◌⊎◌, ℕ, suc, Bool, true, false, ◌||◌, List, [], ◌∷◌, ◌++◌, map, filter, zip, length, bytes_eq, if◌then◌else◌, Option, Some, None, Ok, Err, IsTrue, IsSome}
use Rattle.std.specs.List.{list_any, AllZip}
use Rattle.smk_base.specs.Path.{is_at_or_under, overlaps}
use Rattle.smk_base.specs.Place.{record_place, mark_place, note_place, lock_place}
use Rattle.smk_world.specs.declared.recipe.Recipe.{Recipe}
use Rattle.smk_world.specs.declared.recipe.Out.{Out}
use Rattle.smk_world.specs.declared.event.Node.TheVariants.{Regular}
use Rattle.smk_world.specs.declared.event.Call.{Call}
use Rattle.smk_world.specs.declared.event.Call.TheVariants.{Looked, ReadFile, ReadFolder, Written, Created, Removed, MadeParents, Settled, Protected, Started, Waited}
use Rattle.smk_world.specs.declared.event.Event.{Event}
use Rattle.smk_world.specs.declared.event.Failed.{Failed}
use Rattle.smk_world.specs.World.{World, reading, after, in_paths, out_paths, owned_paths}
use Rattle.smk_world.specs.Calls.{failed, any_overlap, are_apart}
use Rattle.smk_world.specs.Trees.{Path, IsIn, Each, is_path_text, among, outs_of, folders_of, kind_in, is_good}
use Rattle.smk_record.specs.declared.record.Stamp.{Stamp}
use Rattle.smk_record.specs.declared.record.Member.{Member}
use Rattle.smk_record.specs.declared.record.Record.{Record}
use Rattle.smk_record.specs.Records.{members_of, agree, agrees}
use Rattle.smk_store.specs.declared.store.Kept.TheVariants.{Held}
use Rattle.smk_store.specs.Images.{Image, Content, seen, stands, is_file, is_source, source_at, core_at, record_at, members_under, tree_now, is_whole, kept_by}
use Rattle.smk_store.specs.Trust.{Eased, none_eased, Speaks, content_stamp, made_stamp}
use Rattle.smk_store.specs.Soundness.{Outside}

-- ## Open jobs

pub data Phase : Type 0 where
  Marking : Phase  -- its marks and notes are being made
  Marked : Phase  -- they are firm; its outputs are being removed
  Running : ℕ → Phase  -- its child has this number
  Ended : ℕ → Phase  -- its child has ended with this status
  Firm : Phase  -- its outputs are firm and good; its records are being written
  Recorded : Phase  -- they are firm; its marks are being removed
  Dropping : Phase  -- its outputs and records are being removed
  Dropped : Phase  -- that is firm; its marks are being removed

-- A job that has begun and isn't closed: with the stamps that its inputs had as it began, its serial, and for a Restore the
-- records that it found, without their members.
pub record OpenJob : Type 0 where
  pub recipe : Recipe
  pub logs : List Path
  pub stamps : List Stamp
  pub serial : ℕ
  pub kept : List (Path × Record)
  pub phase : Phase

-- Of a run: its open jobs; the greatest serial that an unmarked record may name; whether the marks and notes that it found are
-- firm; whether a call has failed.
pub record RunState : Type 0 where
  pub jobs : List OpenJob
  pub top : ℕ
  pub steady : Bool
  pub faulted : Bool

abbrev pub kept_at : List (Path × Record) → Path → Option Record
kept_at [] p = None
kept_at (e ∷ es) p = if bytes_eq e.0 p then Some e.1 else kept_at es p

abbrev pub outputs : OpenJob → List Path
outputs j = out_paths j.recipe

-- its outputs and logs
abbrev pub own : OpenJob → List Path
own j = owned_paths j.recipe j.logs

abbrev pub mark_places : OpenJob → List Path
mark_places j = map mark_place (outputs j) ++ map note_place j.logs

abbrev pub record_places : OpenJob → List Path
record_places j = map record_place (outputs j)

-- the inputs, each with the stamp that it had
abbrev pub begun_with : OpenJob → List (Path × Stamp)
begun_with j = zip (in_paths j.recipe) j.stamps

-- the record of an output, but for its members
abbrev pub record_of : OpenJob → Path → Record
record_of j p = record { format = 2; path = p; made = j.serial; recipe = j.recipe; stamps = j.stamps; members = [] }

-- the members that belong in it
abbrev pub listed_of : OpenJob → Path → List Member → List Member
listed_of j p members = if among (folders_of j.recipe) p then members else []

-- what it made and what it read is still wanted
abbrev pub keeps : Phase → Bool
keeps Dropping = false
keeps Dropped = false
keeps phase = true

-- the record that a Restore found at the path, or the one that it writes in its place
pub record IsEased (j : OpenJob) (p : Path) (r : Record) : Type 0 where
  pub found : Record
  pub kept : kept_at j.kept p ≡ Some found
  pub is : (r ≡ found) ⊎ (r ≡ record_of j p)

-- such a record of an open Restore, until it is dropped
abbrev pub eased_by : List OpenJob → Eased
eased_by js p r = (j : OpenJob) × IsIn js j × (keeps j.phase ≡ true) × IsEased j p r

abbrev pub eased : RunState → Eased
eased s = eased_by s.jobs

-- A record that was found, and the one that is written in its place: of the same job, with the same serial and recipe, and where an input has
-- a stamp now with which the recorded one agrees.
pub record IsAgain (found written : Record) : Type 0 where
  pub path : found.path ≡ written.path
  pub made : found.made ≡ written.made
  pub recipe : found.recipe ≡ written.recipe
  pub members : found.members ≡ written.members
  pub stamps : AllZip (λ (recorded now : Stamp). IsTrue (agree recorded now)) found.stamps written.stamps

-- nothing of the one job overlaps what the other owns or reads
pub record IsApart (j k : OpenJob) : Type 0 where
  pub own_apart : any_overlap (own j) (own k) ≡ false
  pub not_read : any_overlap (own j) (in_paths k.recipe) ≡ false
  pub reads_not : any_overlap (in_paths j.recipe) (own k) ≡ false

abbrev pub IsThere : World → Path → Type 0
IsThere w place = IsSome (reading (w.nodes place))

-- nothing reads at the place or under it
abbrev pub IsAbsent : World → Path → Type 0
IsAbsent w place = (q : Path) → is_at_or_under q place ≡ true → reading (w.nodes q) ≡ None

abbrev pub AreAmong : List Path → List Path → Type 0
AreAmong ps places = Each (λ p. IsTrue (among ps p)) places

abbrev pub is_running : Phase → Bool
is_running (Running n) = true
is_running phase = false

abbrev pub IsWait : Call → Type 0
IsWait (Waited r) = Unit {0}
IsWait call = ⊥

-- the call as it is when it succeeds
abbrev pub as_ok : Call → Call
as_ok (Written p bytes r) = Written p bytes (Ok tt)
as_ok (Created p r) = Created p (Ok true)
as_ok (Removed p r) = Removed p (Ok tt)
as_ok (MadeParents p r) = MadeParents p (Ok tt)
as_ok (Settled ps r) = Settled ps (Ok tt)
as_ok (Protected p r) = Protected p (Ok tt)
as_ok (Started recipe logs command r) = Started recipe logs command (Ok 0)
as_ok call = call

module _ (o : Outside) where
  abbrev pub now : World → Image
  now w = seen o.read w

  -- a source that has this stamp now
  pub record IsSourceAt (image : Image) (q : Path) (s : Stamp) : Type 0 where
    pub source : Content
    pub stands : source_at image q ≡ Some source
    pub same : s ≡ content_stamp source

  -- A whole output, or a file in one that is a directory; its record has no mark, and the stamp agrees with the record's serial.
  -- Whether the record hangs together isn't asked: the invariant is the same for one that doesn't.
  pub record IsProductAt (image : Image) (q : Path) (s : Stamp) : Type 0 where
    pub speaker : Path
    pub by : Record
    pub speaks : Speaks image none_eased q speaker by
    pub same : IsTrue (agrees s (made_stamp (Some by)))
    pub whole : IsTrue (is_whole image speaker (kind_in by.recipe speaker))
    pub part : (q ≡ speaker) ⊎ IsTrue (is_file image q)

  abbrev pub IsAtHand : Image → Path × Stamp → Type 0
  IsAtHand image (q, s) = IsSourceAt image q s ⊎ IsProductAt image q s

  -- When a job may begin: its paths are apart from each other, from its inputs, from what other open jobs own or read, from sources,
  -- and from records and marks that aren't its own; and its inputs are at hand with its stamps.
  pub record MayBegin (s : RunState) (w : World) (j : OpenJob) : Type 0 where
    pub paths : Each (λ p. IsTrue (is_path_text p)) (own j)
    pub apart : are_apart (own j) ≡ true
    pub from_open : Each (IsApart j) s.jobs
    pub from_inputs : any_overlap (own j) (in_paths j.recipe) ≡ false
    pub no_source : (q : Path) → is_source (now w) q ≡ true → list_any (overlaps q) (own j) ≡ false
    pub no_clash :
        (q : Path) → (stands ((now w).kept q) || (now w).marked q) ≡ true → list_any (overlaps q) (own j) ≡ true → IsIn (outputs j) q
    pub at_hand : Each (IsAtHand (now w)) (begun_with j)
    pub each_stamped : length j.stamps ≡ length (in_paths j.recipe)
    pub kept_own : (p : Path) (r : Record) → kept_at j.kept p ≡ Some r → IsIn (outputs j) p

  -- in the place of the unmarked record that a Restore finds it will write one of the same job
  pub record IsKept (w : World) (j : OpenJob) (p : Path) : Type 0 where
    pub found : Record
    pub stands : core_at (now w) p ≡ Some found
    pub unmarked : (now w).marked p ≡ false
    pub kept : kept_at j.kept p ≡ Some found
    pub again : IsAgain found (record_of j p)

  -- Its serial is the next one; or it is a Restore, and keeps that of its records.
  abbrev pub HasSerial : RunState → World → OpenJob → ℕ → Type 0
  HasSerial s w j top =
      ((j.kept ≡ []) × (j.serial ≡ suc s.top) × (top ≡ suc s.top))
      ⊎ ((j.kept ≡ [] → ⊥) × Each (IsKept w j) (outputs j) × (top ≡ s.top))

  -- of the right kind and within the limits
  abbrev pub IsGood : World → Out → Type 0
  IsGood w out = IsTrue (is_good out.path out.kind (tree_now (now w) out.path))

  abbrev pub listed_now : World → Path → List Member
  listed_now w p = members_of (record_at (now w) p)

  -- in the place of p these bytes are this record, which is valid and isn't too long
  abbrev pub IsRecordOf : Path → List ℕ → Record → Type 0
  IsRecordOf p bytes r = (time : ℕ) (read_only : Bool) → kept_by o.read p (Some (Regular bytes time read_only)) ≡ Held r

  -- the job's record stands there, with the members that are there now
  abbrev pub IsWritten : World → OpenJob → Path → Type 0
  IsWritten w j p = (core_at (now w) p ≡ Some (record_of j p)) × (listed_now w p ≡ listed_of j p (members_under (now w) p))

  -- The call of an open job that leads it from its phase to a phase.
  pub data Moves (w : World) (j : OpenJob) : Call → Phase → Type 0 where
    MakeFolders :
        (p : Path) →
        ((j.phase ≡ Marking) × IsIn (mark_places j) p) ⊎ ((j.phase ≡ Marked) × IsIn (own j) p)
        ⊎ ((j.phase ≡ Firm) × IsIn (record_places j) p) →
        Moves w j (MadeParents p (Ok tt)) j.phase
    Mark : (p : Path) (made : Bool) → j.phase ≡ Marking → IsIn (mark_places j) p → Moves w j (Created p (Ok made)) Marking
    AllMarked :
        (ps : List Path) → j.phase ≡ Marking → Each (IsThere w) (mark_places j) → AreAmong ps (mark_places j) → Moves w j (Settled ps (Ok tt)) Marked
    MakeRoom : (p : Path) → j.phase ≡ Marked → IsIn (outputs j) p → Moves w j (Removed p (Ok tt)) Marked
    Start : (command : List ℕ) (n : ℕ) → j.phase ≡ Marked → Moves w j (Started j.recipe j.logs command (Ok n)) (Running n)
    Wait : (n status : ℕ) → j.phase ≡ Running n → Moves w j (Waited (Ok (record { number = n; status = status }))) (Ended status)
    AllMade :
        (ps : List Path) → j.phase ≡ Ended 0 → Each (IsGood w) (outs_of j.recipe) → AreAmong ps (outputs j) → Moves w j (Settled ps (Ok tt)) Firm
    Write :
        (p : Path) (bytes : List ℕ) →
        j.phase ≡ Firm →
        IsIn (outputs j) p →
        IsRecordOf p bytes (record (record_of j p) { members = listed_of j p (members_under (now w) p) }) →
        Moves w j (Written (record_place p) bytes (Ok tt)) Firm
    AllWritten :
        (ps : List Path) →
        j.phase ≡ Firm → Each (IsWritten w j) (outputs j) → AreAmong ps (record_places j) → Moves w j (Settled ps (Ok tt)) Recorded
    Drop :
        (p : Path) →
        ((n : ℕ) × (j.phase ≡ Ended n)) ⊎ (j.phase ≡ Dropping) → IsIn (outputs j ++ record_places j) p → Moves w j (Removed p (Ok tt)) Dropping
    AllDropped :
        (ps : List Path) →
        j.phase ≡ Dropping →
        Each (IsAbsent w) (outputs j ++ record_places j) →
        AreAmong ps (outputs j ++ record_places j) → Moves w j (Settled ps (Ok tt)) Dropped
    Unmark : (p : Path) → (j.phase ≡ Recorded) ⊎ (j.phase ≡ Dropped) → IsIn (outputs j) p → Moves w j (Removed (mark_place p) (Ok tt)) j.phase

  -- The call that closes a job: its marks are gone, and that is settled.
  pub data Closes (w : World) (j : OpenJob) : Call → Type 0 where
    AllUnmarked :
        (ps : List Path) →
        (j.phase ≡ Recorded) ⊎ (j.phase ≡ Dropped) →
        Each (λ p. IsAbsent w (mark_place p)) (outputs j) → AreAmong ps (map mark_place (outputs j)) → Closes w j (Settled ps (Ok tt))

  -- ## Calls of no job

  abbrev pub IsLook : Call → Type 0
  IsLook (Looked p r) = Unit {0}
  IsLook (ReadFile p limit r) = Unit {0}
  IsLook (ReadFolder p r) = Unit {0}
  IsLook call = ⊥

  abbrev pub IsLock : Call → Type 0
  IsLock (Created p r) = p ≡ lock_place
  IsLock (Removed p r) = p ≡ lock_place
  IsLock (MadeParents p r) = p ≡ lock_place
  IsLock call = ⊥

  -- an unmarked recorded output that no open job owns or reads, with no more members than its record lists
  pub record IsFree (s : RunState) (w : World) (p : Path) (r : Record) : Type 0 where
    pub path : IsTrue (is_path_text p)
    pub recorded : core_at (now w) p ≡ Some r
    pub unmarked : (now w).marked p ≡ false
    pub from_own : Each (λ k. any_overlap (own k) (p ∷ []) ≡ false) s.jobs
    pub from_inputs : Each (λ k. any_overlap (p ∷ []) (in_paths k.recipe) ≡ false) s.jobs
    pub no_more : (m : Member) → IsIn (members_under (now w) p) m → IsIn (listed_now w p) m

  -- every mark and note that stands is among these places
  pub record HasAllMarks (image : Image) (ps : List Path) : Type 0 where
    pub marks : (p : Path) → image.marked p ≡ true → IsTrue (among ps (mark_place p))
    pub notes : (p : Path) → image.noted p ≡ true → IsTrue (among ps (note_place p))

  -- makes one of these places, or the folders above it
  abbrev pub IsFirst : Call → List Path → Type 0
  IsFirst (Created p (Ok made)) ps = IsIn ps p
  IsFirst (MadeParents p (Ok u)) ps = IsIn ps p
  IsFirst call ps = ⊥

  abbrev pub runs : OpenJob → Bool
  runs j = is_running j.phase

  -- after a fault only waits come
  abbrev pub MayGo : RunState → Event → Type 0
  MayGo s e = (s.faulted ≡ false) ⊎ IsWait e.call

  -- the call of no job, which leaves the state as it is
  pub data Besides (s : RunState) (w : World) : Call → Type 0 where
    Look : (c : Call) → IsLook c → Besides s w c
    Lock : (c : Call) → IsLock c → Besides s w c
    Settle : (ps : List Path) → Besides s w (Settled ps (Ok tt))
    Spend : (p : Path) (r : Record) → IsFree s w p r → Besides s w (Removed p (Ok tt))
    Protect : (p : Path) (r : Record) → IsFree s w p r → Besides s w (Protected p (Ok tt))

  -- ## One event

  pub data Step (s : RunState) (w : World) : Event → RunState → Type 0 where
    Aside : (e : Event) → s.faulted ≡ false → Besides s w e.call → Step s w e s
    -- the marks and notes that were found are made firm before any job begins
    Steady :
        (e : Event) (ps : List Path) →
        s.faulted ≡ false → s.jobs ≡ [] → e.call ≡ Settled ps (Ok tt) → HasAllMarks (now w) ps → Step s w e (record s { steady = true })
    -- a job begins with its first mark
    Begin :
        (e : Event) (j : OpenJob) (top : ℕ) →
        s.faulted ≡ false →
        s.steady ≡ true →
        MayBegin s w j →
        HasSerial s w j top → j.phase ≡ Marking → IsFirst e.call (mark_places j) → Step s w e (record s { jobs = j ∷ s.jobs; top = top })
    Go :
        (e : Event) (js ks : List OpenJob) (j : OpenJob) (phase : Phase) →
        s.jobs ≡ js ++ j ∷ ks → MayGo s e → Moves w j e.call phase → Step s w e (record s { jobs = js ++ (record j { phase = phase }) ∷ ks })
    Close :
        (e : Event) (js ks : List OpenJob) (j : OpenJob) →
        s.jobs ≡ js ++ j ∷ ks → s.faulted ≡ false → Closes w j e.call → Step s w e (record s { jobs = js ++ ks })
    -- a call that might have come is answered Failed; the children run on, no other call but a wait comes any more, and a serial that
    -- was drawn for the call stays drawn
    Fail :
        (e : Event) (s' : RunState) →
        IsTrue (failed e.call) → Step s w (record e { call = as_ok e.call }) s' → Step s w e (record s { jobs = filter runs s.jobs; top = s'.top; faulted = true })
    FailWait : (e : Event) (x : Failed) → e.call ≡ Waited (Err x) → Step s w e (record s { jobs = filter runs s.jobs; faulted = true })

  -- a run: the state after each event
  pub data Runs : RunState → World → List Event → RunState → Type 0 where
    Done : (s : RunState) (w : World) → Runs s w [] s
    Next :
        (s mid end : RunState) (w : World) (e : Event) (es : List Event) →
        Step s w e mid → Runs mid (after w e) es end → Runs s w (e ∷ es) end
