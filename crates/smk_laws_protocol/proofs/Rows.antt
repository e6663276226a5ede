-- The protocol of a run: which events may come, by the phases of the jobs that are open. It keeps every crash image sound.
use Rattle.std.specs.Prelude.{◌≡◌, ◌⊎◌, ℕ, suc, Bool, true, false, ◌||◌, List, [], ◌∷◌, ◌++◌, map, filter, length, Some, Ok, Err, is_some, IsTrue}
use Rattle.std.specs.List.{list_any}
use Rattle.smk_world.specs.declared.recipe.Out.{Out}
use Rattle.smk_record.specs.declared.record.Member.{Member}
use Rattle.smk_record.specs.declared.record.Stamp.{Stamp}
use Rattle.smk_record.specs.declared.record.Stamp.TheVariants.{Time, Sum, Made}
use Rattle.smk_record.specs.declared.record.Record.{Record}
use Rattle.smk_world.specs.declared.event.Call.{Call}
use Rattle.smk_world.specs.declared.event.Call.TheVariants.{Written, Created, Removed, MadeParents, Settled, Protected, Started, Waited}
use Rattle.smk_world.specs.declared.event.Event.{Event}
use Rattle.smk_world.specs.declared.event.Failed.{Failed}
use Rattle.smk_world.specs.Trees.{Path, among, outs_of, is_good, is_path_text, IsIn, Each}
use Rattle.smk_store.specs.Images.{is_outside, Content}
use Rattle.smk_base.specs.Path.{overlaps}
use Rattle.smk_laws_protocol.specs.Protocol.{IsAgain, Phase, Marking, Marked, Running, Ended, Firm, Recorded, Dropping, Dropped, OpenJob, RunState, kept_at, outputs, own, mark_places, record_places, begun_with, record_of, listed_of, IsThere, IsAbsent, AreAmong, IsRecordOf, as_ok, IsLook, IsLock, IsFirst, runs, MayGo}
use Rattle.smk_world.specs.World.{in_paths, World, after}
use Rattle.smk_laws_protocol.proofs.View.{kind_in, View, Speaks, is_source, source_at, is_whole}
use Rattle.smk_store.specs.Trust.{none_eased, content_stamp}
use Rattle.smk_base.specs.Place.{mark_place, record_place, note_place}
use Rattle.smk_world.specs.Calls.{failed, any_overlap, are_apart}
use Rattle.smk_store.specs.Soundness.{Outside}
use Rattle.smk_laws_protocol.proofs.Views.{view_of, reads}

-- nothing of the one job overlaps what the other owns or reads
abbrev pub IsApart : OpenJob → OpenJob → Type 0
IsApart j k =
    (any_overlap (own j) (own k) ≡ false)
    × (any_overlap (own j) (in_paths k.recipe) ≡ false)
    × (any_overlap (in_paths j.recipe) (own k) ≡ false)

module _ (o : Outside) where
  abbrev pub now : World → View
  now w = view_of o.read w.names (reads w)

  -- a source with this stamp
  abbrev pub IsSourceOf : View → Path → Stamp → Type 0
  IsSourceOf v q s = (f : Content) × (source_at v q ≡ Some f) × (content_stamp f ≡ s)

  -- a source with this stamp; or whole, or a file in what is whole, with this serial in an unmarked record
  abbrev pub IsAtHand : View → Path × Stamp → Type 0
  IsAtHand v (q, Time t) = IsSourceOf v q (Time t)
  IsAtHand v (q, Sum t d) = IsSourceOf v q (Sum t d)
  IsAtHand v (q, Made m) =
      (h : Path) × (r : Record) × (Speaks v none_eased q h r × (r.made ≡ m)
      × IsTrue (is_whole v h (kind_in r h)) × ((q ≡ h) ⊎ IsTrue (is_some (v.file q))))

  -- When a job may begin.
  pub record MayBegin (s : RunState) (w : World) (j : OpenJob) : Type 0 where
    pub paths : Each (λ p. IsTrue (is_outside p)) (own j)
    pub texts : Each (λ p. IsTrue (is_path_text p)) (own j)
    pub apart : are_apart (own j) ≡ true
    pub from_open : Each (IsApart j) s.jobs
    pub from_inputs : any_overlap (own j) (in_paths j.recipe) ≡ false
    pub no_source : (q : Path) → is_source (now w) q ≡ true → list_any (overlaps q) (own j) ≡ false
    pub no_clash :
        (q : Path) → ((now w).has_record q || (now w).marked q) ≡ true → list_any (overlaps q) (own j) ≡ true → IsIn (outputs j) q
    pub at_hand : Each (IsAtHand (now w)) (begun_with j)
    pub each_stamped : length j.stamps ≡ length (in_paths j.recipe)
    pub kept_own : (p : Path) (r : Record) → kept_at j.kept p ≡ Some r → IsIn (outputs j) p

  -- its serial is the next one; or it is a Restore, and has that of its unmarked records, in the place of which it writes such again
  pub record IsKept (w : World) (j : OpenJob) (p : Path) : Type 0 where
    pub found : Record
    pub stands : (now w).record_at p ≡ Some found
    pub unmarked : (now w).marked p ≡ false
    pub kept : kept_at j.kept p ≡ Some found
    pub again : IsAgain found (record_of j p)

  abbrev pub HasSerial : RunState → World → OpenJob → ℕ → Type 0
  HasSerial s w j top =
      ((j.kept ≡ []) × (j.serial ≡ suc s.top) × (top ≡ suc s.top)) ⊎ ((j.kept ≡ [] → ⊥) × Each (IsKept w j) (outputs j) × (top ≡ s.top))

  -- of the right kind and within the limits
  abbrev pub IsGood : World → Out → Type 0
  IsGood w out = IsTrue (is_good out.path out.kind ((now w).tree out.path))

  abbrev pub IsWritten : World → OpenJob → Path → Type 0
  IsWritten w j p = ((now w).record_at p ≡ Some (record_of j p)) × ((now w).listed p ≡ listed_of j p ((now w).members p))

  -- the call of an open job that leads it from phase to phase
  pub data Moves (w : World) (j : OpenJob) : Call → Phase → Type 0 where
    MakeFolders :
        (p : Path) →
        ((j.phase ≡ Marking) × IsIn (mark_places j) p) ⊎ (((j.phase ≡ Marked) × IsIn (own j) p) ⊎ ((j.phase ≡ Firm) × IsIn (record_places j) p)) →
        Moves w j (MadeParents p (Ok tt)) j.phase
    Mark : (p : Path) (made : Bool) → j.phase ≡ Marking → IsIn (mark_places j) p → Moves w j (Created p (Ok made)) Marking
    AllMarked : (ps : List Path) → j.phase ≡ Marking → Each (IsThere w) (mark_places j) → AreAmong ps (mark_places j) → Moves w j (Settled ps (Ok tt)) Marked
    MakeRoom : (p : Path) → j.phase ≡ Marked → IsIn (outputs j) p → Moves w j (Removed p (Ok tt)) Marked
    Start : (command : List ℕ) (n : ℕ) → j.phase ≡ Marked → Moves w j (Started j.recipe j.logs command (Ok n)) (Running n)
    Wait : (n status : ℕ) → j.phase ≡ Running n → Moves w j (Waited (Ok (record { number = n; status = status }))) (Ended status)
    AllMade : (ps : List Path) → j.phase ≡ Ended 0 → Each (IsGood w) (outs_of j.recipe) → AreAmong ps (outputs j) → Moves w j (Settled ps (Ok tt)) Firm
    Write :
        (p : Path) (bytes : List ℕ) → j.phase ≡ Firm → IsIn (outputs j) p →
        IsRecordOf o p bytes (record (record_of j p) { members = listed_of j p ((now w).members p) }) → Moves w j (Written (record_place p) bytes (Ok tt)) Firm
    AllWritten : (ps : List Path) → j.phase ≡ Firm → Each (IsWritten w j) (outputs j) → AreAmong ps (record_places j) → Moves w j (Settled ps (Ok tt)) Recorded
    Drop :
        (p : Path) → ((n : ℕ) × (j.phase ≡ Ended n)) ⊎ (j.phase ≡ Dropping) → IsIn (outputs j ++ record_places j) p → Moves w j (Removed p (Ok tt)) Dropping
    AllDropped : (ps : List Path) → j.phase ≡ Dropping → Each (IsAbsent w) (outputs j ++ record_places j) → AreAmong ps (outputs j ++ record_places j) → Moves w j (Settled ps (Ok tt)) Dropped
    Unmark : (p : Path) → (j.phase ≡ Recorded) ⊎ (j.phase ≡ Dropped) → IsIn (outputs j) p → Moves w j (Removed (mark_place p) (Ok tt)) j.phase

  -- the call that closes a job
  pub data Closes (w : World) (j : OpenJob) : Call → Type 0 where
    AllUnmarked :
        (ps : List Path) → (j.phase ≡ Recorded) ⊎ (j.phase ≡ Dropped) → Each (λ p. IsAbsent w (mark_place p)) (outputs j) →
        AreAmong ps (map mark_place (outputs j)) → Closes w j (Settled ps (Ok tt))

  pub record IsFree (s : RunState) (w : World) (p : Path) (r : Record) : Type 0 where
    pub recorded : (now w).record_at p ≡ Some r
    pub unmarked : (now w).marked p ≡ false
    pub path : IsTrue (is_outside p)
    pub text : IsTrue (is_path_text p)
    pub from_own : Each (λ k. any_overlap (own k) (p ∷ []) ≡ false) s.jobs
    pub from_inputs : Each (λ k. any_overlap (p ∷ []) (in_paths k.recipe) ≡ false) s.jobs
    -- a directory has no member that isn't recorded
    pub no_more : (m : Member) → IsIn ((now w).members p) m → IsIn ((now w).listed p) m

  -- every mark and note that stands is among these places
  pub record HasAllMarks (v : View) (ps : List Path) : Type 0 where
    pub marks : (p : Path) → v.marked p ≡ true → IsTrue (among ps (mark_place p))
    pub notes : (p : Path) → v.noted p ≡ true → IsTrue (among ps (note_place p))

  -- the call of no job, which leaves the state as it is
  pub data Besides (s : RunState) (w : World) : Call → Type 0 where
    Look : (c : Call) → IsLook o c → Besides s w c
    Lock : (c : Call) → IsLock o c → Besides s w c
    Settle : (ps : List Path) → Besides s w (Settled ps (Ok tt))
    -- an output that is recorded and unmarked, which no open job owns or reads
    Spend : (p : Path) (r : Record) → IsFree s w p r → Besides s w (Removed p (Ok tt))
    Protect : (p : Path) (r : Record) → IsFree s w p r → Besides s w (Protected p (Ok tt))

  -- one event
  pub data Step (s : RunState) (w : World) : Event → RunState → Type 0 where
    Aside : (e : Event) → s.faulted ≡ false → Besides s w e.call → Step s w e s
    -- the marks and notes that were found are made firm before any job begins
    Steady :
        (e : Event) (ps : List Path) → s.faulted ≡ false → s.jobs ≡ [] → e.call ≡ Settled ps (Ok tt) → HasAllMarks (now w) ps →
        Step s w e (record s { steady = true })
    -- a job begins with its first mark
    Begin :
        (e : Event) (j : OpenJob) (top : ℕ) → s.faulted ≡ false → s.steady ≡ true → MayBegin s w j → HasSerial s w j top →
        j.phase ≡ Marking → IsFirst o e.call (mark_places j) → Step s w e (record s { jobs = j ∷ s.jobs; top = top })
    Go :
        (e : Event) (js ks : List OpenJob) (j : OpenJob) (phase : Phase) → s.jobs ≡ js ++ j ∷ ks → MayGo o s e → Moves w j e.call phase →
        Step s w e (record s { jobs = js ++ record j { phase = phase } ∷ ks })
    Close :
        (e : Event) (js ks : List OpenJob) (j : OpenJob) → s.jobs ≡ js ++ j ∷ ks → s.faulted ≡ false → Closes w j e.call → Step s w e (record s { jobs = js ++ ks })
    -- a call that might have come, answered Failed; the children run on, and no other call but a wait comes any more
    Fail :
        (e : Event) (s' : RunState) → IsTrue (failed e.call) → Step s w (record e { call = as_ok e.call }) s' →
        Step s w e (record s { jobs = filter (runs o) s.jobs; top = s'.top; faulted = true })
    FailWait : (e : Event) (x : Failed) → e.call ≡ Waited (Err x) → Step s w e (record s { jobs = filter (runs o) s.jobs; faulted = true })

  -- a run: the state after each event
  pub data Runs : RunState → World → List Event → RunState → Type 0 where
    Done : (s : RunState) (w : World) → Runs s w [] s
    Next :
        (s mid end : RunState) (w : World) (e : Event) (es : List Event) →
        Step s w e mid → Runs mid (after w e) es end → Runs s w (e ∷ es) end
