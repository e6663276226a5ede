-- What is known and seen of a job's outputs once it was closed.
use Rattle.std.proofs.Common.{◌≡◌, inl, inr, ℕ, Bool, true, false, ◌&&◌, ◌||◌, List, [], ◌∷◌}
use Rattle.std.proofs.Common.{map, zip, Option, Some, None, is_some, refl, sym, ap, subst, ◌∙◌, true≢false}
use Rattle.std.specs.Prelude.{if◌then◌else◌, option_map}
use Rattle.std.proofs.lemmas.Option.{same_Some}
use Rattle.std.proofs.Math.Bool.{and-false}
use Rattle.smk_base.specs.Path.{is_at_or_under}
use Rattle.smk_base.specs.Place.{mark_place, record_place}
use Rattle.smk_base.proofs.Places.{same_place}
use Rattle.smk_base.proofs.Under.{never_both, or_first, or_second}
use Rattle.smk_world.specs.declared.event.Node.{Node}
use Rattle.smk_world.specs.declared.event.Node.TheVariants.{Directory, Regular}
use Rattle.smk_world.specs.declared.event.NodeState.{NodeState}
use Rattle.smk_world.specs.declared.event.NodeState.TheVariants.{Owned, Known}
use Rattle.smk_world.specs.Calls.{HoldsBytes, Reads}
use Rattle.smk_world.specs.Trees.{Each, IsIn, Path, among, is_path_text}
use Rattle.smk_world.specs.World.{World, firmly, in_paths, is_within, out_paths, reading}
use Rattle.smk_flow.specs.declared.job.Job.{Job}
use Rattle.smk_record.specs.declared.record.Member.{Member}
use Rattle.smk_record.specs.declared.record.Stamp.{Stamp}
use Rattle.smk_record.specs.Records.{is_valid, record_of}
use Rattle.smk_record.specs.Spelling.{ReadsRecords, is_writable, spelling}
use Rattle.smk_store.specs.declared.store.Kept.{Kept}
use Rattle.smk_store.specs.declared.store.Kept.TheVariants.{Absent}
use Rattle.smk_store.specs.Images.{Content, Image, content_of, file_at, is_file, is_outside, kept_by, source_at, stands}
use Rattle.smk_store.specs.Soundness.{SameSources, told}
use Rattle.smk_trigger.specs.Reasons.{held}
use Rattle.smk_plan.specs.Summed.{has_other_time, needs_sum, records_by}
use Rattle.smk_laws_plan.proofs.CurrentLists.{all_in}
use Rattle.smk_laws_plan.proofs.CurrentPaths.{among_in}
use Rattle.smk_laws_protocol.proofs.Basics.{each_in, each_on}
use Rattle.smk_job.specs.Jobs.{Underway, bytes_with, underway}
use Rattle.smk_run.specs.Runs.{AreWritable}
use Rattle.smk_laws_job.proofs.Readable.{AreFor, outputs_paths}
use Rattle.smk_safe.proofs.Kept.{AllHold}
use Rattle.smk_drive.specs.Moments.{Rules, seen}
use Rattle.smk_laws_turns.specs.Changing.{NeedsNoMore}
use Rattle.smk_laws_turns.specs.Differing.{IsKnownOrGone}
use Rattle.smk_laws_turns.proofs.Recorded.{IsRecordOf, IsTimed, each_flat, kept_is, kept_stands, needs_none}
use Rattle.smk_laws_turns.proofs.FolderLeaving.{AllFor, HasLost}
use Rattle.smk_laws_turns.proofs.FolderClosing.{IsKeptSo, Kept as KeptSo, LeavesSo, Lost}

each_mapped : {A B : Type 0} (P : B → Type 0) (f : A → B) (xs : List A) → ((x : A) → IsIn xs x → P (f x)) → Each P (map f xs)
each_mapped P f [] all = tt
each_mapped P f (x ∷ xs) all = (all x (inl refl), each_mapped P f xs (λ y i. all y (inr i)))

reads_none : (s : NodeState) → Reads None s → reading s ≡ None
reads_none Owned h = absurd h
reads_none (Known now besides) h = h

holds_reading : (s : NodeState) (bytes : List ℕ) → HoldsBytes bytes s → (time : ℕ) × (read_only : Bool) × (reading s ≡ Some (Regular bytes time read_only))
holds_reading Owned bytes h = absurd h
holds_reading (Known None besides) bytes h = absurd h
holds_reading (Known (Some Directory) besides) bytes h = absurd h
holds_reading (Known (Some (Regular held time read_only)) besides) bytes h = (time, read_only, ap (λ b. Some (Regular b time read_only)) h)

within_at : (ps : List Path) (p q : Path) → IsIn ps p → is_at_or_under q p ≡ true → is_within q ps ≡ true
within_at [] p q i at = absurd i
within_at (x ∷ ps) p q (inl e) at = or_first (is_at_or_under q x) (is_within q ps) (ap (is_at_or_under q) (sym e) ∙ at)
within_at (x ∷ ps) p q (inr i) at = or_second (is_at_or_under q x) (is_within q ps) (within_at ps p q i at)

module _
    (rules : Rules) (j : Job) (stamps : List Stamp) (made number : ℕ) (v : World) (writable : AreWritable made j.recipe stamps)
    (leaves : LeavesSo (underway j.recipe j.logs stamps made number) v) where
  abbrev g : Underway
  g = underway j.recipe j.logs stamps made number

  abbrev outs : List Path
  outs = out_paths j.recipe

  abbrev later : Image
  later = seen rules v

  text : (p : Path) → IsIn outs p → is_path_text p ≡ true
  text p i =
      all_in is_path_text outs p
      (outputs_paths (record_of p made j.recipe stamps []) (each_in (λ q. is_valid (record_of q made j.recipe stamps []) ≡ true) outs p writable.valid i)) i

  -- the record stands with these members
  record IsHeld (p : Path) : Type 0 where
    members : List Member
    for : AreFor j.recipe p members
    time : ℕ
    read_only : Bool
    reads : reading (v.nodes (record_place p)) ≡ Some (Regular (spelling (record_of p made j.recipe stamps members)) time read_only)

  held_in : (ps : List Path) (ms : List (List Member)) → AllFor j.recipe ps ms → AllHold v ps (bytes_with g ps ms) → (p : Path) → IsIn ps p → IsHeld p
  held_in [] ms for hold p i = absurd i
  held_in (x ∷ ps) [] for hold p i = absurd for
  held_in (x ∷ ps) (m ∷ ms) for hold p (inl e) =
      let r = holds_reading (v.nodes (record_place x)) (spelling (record_of x made j.recipe stamps m)) hold.0 in
      subst IsHeld (sym e) (record { members = m; for = for.0; time = r.0; read_only = r.1; reads = r.2 })
  held_in (x ∷ ps) (m ∷ ms) for hold p (inr i) = held_in ps ms for.1 hold.1 p i

  kept_at : (p : Path) → IsIn outs p → (n : Option Node) → reading (v.nodes (record_place p)) ≡ n → later.kept p ≡ kept_by rules.read p n
  kept_at p i n is =
      ap (λ (b : Bool). if b then kept_by rules.read p (reading (v.nodes (record_place p))) else Absent) (text p i) ∙ ap (kept_by rules.read p) is

  held_stands : (p : Path) → IsIn outs p → IsHeld p → stands (later.kept p) ≡ true
  held_stands p i h =
      let bytes = spelling (record_of p made j.recipe stamps h.members) in
      ap (λ (k : Kept). stands k) (kept_at p i (Some (Regular bytes h.time h.read_only)) h.reads) ∙ kept_stands rules.read p bytes h.time h.read_only

  held_by : IsKeptSo g v → (p : Path) → IsIn outs p → IsHeld p
  held_by k p i = held_in outs k.members k.for k.kept.records p i

  -- ## Records

  module _ (reads : ReadsRecords rules.read) where
    record_is : (p : Path) → IsIn outs p → Each (IsRecordOf j.recipe stamps) (held (later.kept p))
    record_is p i = go leaves
      where
        go : LeavesSo g v → Each (IsRecordOf j.recipe stamps) (held (later.kept p))
        go (KeptSo k) =
            let h = held_by k p i in
            let bytes = spelling (record_of p made j.recipe stamps h.members) in
            subst (λ (x : Kept). Each (IsRecordOf j.recipe stamps) (held x)) (sym (kept_at p i (Some (Regular bytes h.time h.read_only)) h.reads))
            (kept_is rules.read p made j.recipe stamps h.members h.time h.read_only reads
            (each_in (λ q. is_valid (record_of q made j.recipe stamps []) ≡ true) outs p writable.valid i)
            (each_in (λ q. is_writable (record_of q made j.recipe stamps []) ≡ true) outs p writable.writable i) h.for)
        go (Lost l) =
            subst (λ (x : Kept). Each (IsRecordOf j.recipe stamps) (held x))
            (sym (kept_at p i None (reads_none (v.nodes (record_place p)) (l.records p i)))) tt

    -- no record needs a SHA-256 of a source that the run found
    module _
        (first : Image) (same : SameSources first later)
        (stamped : Each (λ (x : Path × Stamp). (f : Content) → source_at first x.0 ≡ Some f → has_other_time x.1 f.time ≡ false)
        (zip (in_paths j.recipe) stamps)) where
      timed :
          (q : Path) (f : Content) → source_at later q ≡ Some f → (x : Path × Stamp) →
          ((c : Content) → source_at first x.0 ≡ Some c → has_other_time x.1 c.time ≡ false) → IsTimed q f.time x
      timed q f is x of equal = go (source_at first q) refl
        where
          here : x.0 ≡ q
          here = same_place x.0 q equal

          both : option_map told (source_at first q) ≡ Some (told f)
          both = sym (same q) ∙ ap (option_map told) is

          go : (o : Option Content) → source_at first q ≡ o → has_other_time x.1 f.time ≡ false
          go None e = absurd (true≢false (sym (ap is_some (sym (ap (option_map told) e) ∙ both))))
          go (Some c) e =
              let times : c.time ≡ f.time = ap (λ (t : List ℕ × ℕ). t.1) (same_Some (told c) (told f) (sym (ap (option_map told) e) ∙ both)) in
              subst (λ t. has_other_time x.1 t ≡ false) times (of c (ap (source_at first) here ∙ e))

      pub needs_no_more : (image : Image) (q : Path) → NeedsNoMore image later j q
      needs_no_more image q f is needs =
          absurd (never_both (needs_sum (records_by later.kept j) q f.time) needs
          (needs_none j.recipe stamps q f.time (records_by later.kept j)
          (each_on _ (IsTimed q f.time) (timed q f is) (zip (in_paths j.recipe) stamps) stamped)
          (each_flat (IsRecordOf j.recipe stamps) held (map later.kept outs)
          (each_mapped (λ (k : Kept). Each (IsRecordOf j.recipe stamps) (held k)) later.kept outs record_is))))

  -- ## Outputs

  none_at : HasLost outs v → (p q : Path) → IsIn outs p → is_at_or_under q p ≡ true → file_at later q ≡ None
  none_at l p q i at = go (is_outside q)
    where
      go : (b : Bool) → content_of (if b then reading (v.nodes q) else None) ≡ None
      go true = ap content_of (reads_none (v.nodes q) (l.outputs q (within_at outs p q i at)))
      go false = refl

  pub known_or_gone : (p : Path) → IsIn outs p → IsKnownOrGone later p
  known_or_gone p i = go leaves
    where
      go : LeavesSo g v → IsKnownOrGone later p
      go (KeptSo k) = inl (or_first (stands (later.kept p)) (later.marked p || later.noted p) (held_stands p i (held_by k p i)))
      go (Lost l) = inr (λ q at. none_at l p q i at)

  pub made_recorded : (o q : Path) → among outs o ≡ true → is_at_or_under q o ≡ true → is_file later q ≡ true → stands (later.kept o) ≡ true
  made_recorded o q among_outs at file = go leaves
    where
      i : IsIn outs o
      i = among_in outs o among_outs

      go : LeavesSo g v → stands (later.kept o) ≡ true
      go (KeptSo k) = held_stands o i (held_by k o i)
      go (Lost l) = absurd (true≢false (sym file ∙ ap is_some (none_at l o q i at)))

  pub mark_gone : (p : Path) → among outs p ≡ true → v.nodes (mark_place p) ≡ firmly None
  mark_gone p among_outs = go leaves
    where
      go : LeavesSo g v → v.nodes (mark_place p) ≡ firmly None
      go (KeptSo k) = k.kept.marks p (among_in outs p among_outs)
      go (Lost l) = l.marks p (among_in outs p among_outs)

  pub unmarked : (p : Path) → among outs p ≡ true → later.marked p ≡ false
  unmarked p i = ap (λ (s : NodeState). is_path_text p && is_some (reading s)) (mark_gone p i) ∙ and-false (is_path_text p)
