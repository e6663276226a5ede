-- What a run may do to a folder while no job begins: it takes its lock, and makes folders above the places of its plan's jobs. All else that reads stays.
use Rattle.std.proofs.Common.{◌≡◌, ◌⊎◌, ℕ, Bool, true, false, ◌&&◌, ◌||◌, not, List, refl, sym, ap, subst, ◌∙◌, inl, inr, bytes_eq, Option, Some, None, Ok, Err, is_some, true≢false}
use Rattle.std.specs.Prelude.{if◌then◌else◌}
use Rattle.smk_base.specs.Path.{is_at_or_under, is_under}
use Rattle.smk_base.specs.Place.{record_place, mark_place, note_place, lock_place}
use Rattle.smk_base.proofs.Apart.{mark-lock, note-lock, path-own, record-lock}
use Rattle.smk_base.proofs.Under.{at_or_under_cases, never_both, under_further}
use Rattle.smk_world.specs.declared.event.Node.{Node}
use Rattle.smk_world.specs.declared.event.Node.TheVariants.{Directory}
use Rattle.smk_world.specs.declared.event.NodeState.{NodeState}
use Rattle.smk_world.specs.declared.event.NodeState.TheVariants.{Owned, Known}
use Rattle.smk_world.specs.declared.event.Call.{Call}
use Rattle.smk_world.specs.declared.event.Call.TheVariants.{Looked, ReadFile, ReadFolder, Written, Created, Removed, MadeParents, Settled, Protected, Started, Waited}
use Rattle.smk_world.specs.declared.event.Change.{Change}
use Rattle.smk_world.specs.declared.recipe.Kind.{Kind}
use Rattle.smk_world.specs.World.{World, IsFormed, after, children_after, firm, going, is_above, is_within, loose, node_after, out_paths, reading, reads_folder, reads_nothing, standing, with_flag, with_folder}
use Rattle.smk_world.specs.Calls.{Lets, MayRemain}
use Rattle.smk_world.specs.Trees.{Path, Act, IsIn, is_path_text}
use Rattle.smk_flow.specs.declared.job.Job.{Job}
use Rattle.smk_flow.specs.Flows.{Flow}
use Rattle.smk_record.specs.declared.record.Record.{Record}
use Rattle.smk_store.specs.declared.store.Kept.TheVariants.{Absent}
use Rattle.smk_store.specs.Images.{content_of, file_at, is_outside, is_whole, kept_by, seen}
use Rattle.smk_chain.specs.Derive.{Derived, Listings, derivation}
use Rattle.smk_drive.specs.Moments.{changes_at}
use Rattle.smk_drive.specs.Lawful.{makes_folders}
use Rattle.smk_laws_plan.specs.Current.{IsComplete}
use Rattle.smk_laws_plan.proofs.CurrentLists.{and_left, none_some}
use Rattle.smk_laws_history.proofs.HistoryPlaces.{whole_same}
use Rattle.smk_cli_target.proofs.PlanPlaces.{Place, none_under_mark, none_under_note, none_under_out, none_under_record, out_is_path}

-- ## One place

pub firm_reads : (s : NodeState) → reading (firm s) ≡ reading s
firm_reads Owned = refl
firm_reads (Known now besides) = refl

turned : (some under none : Bool) → ((some && under) && none) ≡ true → (under && (none && some)) ≡ true
turned true true true h = refl
turned true true false h = absurd (true≢false (sym h))
turned true false none h = absurd (true≢false (sym h))
turned false under none h = absurd (true≢false (sym h))

-- a new folder has no content
no_content : (b : Bool) → content_of (if b then Some Directory else None) ≡ content_of (if b then None else None)
no_content true = refl
no_content false = refl

module _ (Above : Path → Type 0) where
  -- From one state of the place to another the same reads, or it is the lock's, or a folder is made there.
  abbrev pub IsTurned : Path → NodeState → NodeState → Type 0
  IsTurned q s t = (reading t ≡ reading s) ⊎ (q ≡ lock_place) ⊎ (Above q × (reading s ≡ None) × (reading t ≡ Some Directory))

  pub turned_on : (q : Path) (s t u : NodeState) → IsTurned q s t → IsTurned q t u → IsTurned q s u
  turned_on q s t u (inl a) (inl b) = inl (b ∙ a)
  turned_on q s t u (inl a) (inr (inl lock)) = inr (inl lock)
  turned_on q s t u (inl a) (inr (inr (above, none, made))) = inr (inr (above, sym a ∙ none, made))
  turned_on q s t u (inr (inl lock)) b = inr (inl lock)
  turned_on q s t u (inr (inr (above, none, made))) (inl b) = inr (inr (above, none, b ∙ made))
  turned_on q s t u (inr (inr (above, none, made))) (inr (inl lock)) = inr (inl lock)
  turned_on q s t u (inr (inr (above, none, made))) (inr (inr (again, none2, made2))) = absurd (none_some (reading t) Directory none2 made)

  -- Why the place may be changed by the call: it is the lock's; a folder is made there; or the call removes what isn't there.
  abbrev pub IsGone : World → Call → Type 0
  IsGone w (Removed p r) = (q : Path) → is_at_or_under q p ≡ true → reading (w.nodes q) ≡ None
  IsGone w call = ⊥

  abbrev pub MayChange : World → Call → Path → Type 0
  MayChange w call q = (q ≡ lock_place) ⊎ ((makes_folders call ≡ true) × Above q) ⊎ IsGone w call

  -- no child is started, and none is waited for
  abbrev pub HasNoChild : Call → Type 0
  HasNoChild (Started recipe logs command r) = ⊥
  HasNoChild (Waited r) = ⊥
  HasNoChild call = Unit {0}

  of_lock : (q : Path) → (q ≡ lock_place) ⊎ ((false ≡ true) × Above q) ⊎ ⊥ → q ≡ lock_place
  of_lock q (inl lock) = lock
  of_lock q (inr (inl (no_folder, above))) = absurd (true≢false (sym no_folder))
  of_lock q (inr (inr none)) = absurd none

  of_folder : (q : Path) → (q ≡ lock_place) ⊎ ((true ≡ true) × Above q) ⊎ ⊥ → (q ≡ lock_place) ⊎ Above q
  of_folder q (inl lock) = inl lock
  of_folder q (inr (inl (folder, above))) = inr above
  of_folder q (inr (inr none)) = absurd none

  of_removal :
      (w : World) (p q : Path) → is_at_or_under q p ≡ true →
      (q ≡ lock_place) ⊎ ((false ≡ true) × Above q) ⊎ ((x : Path) → is_at_or_under x p ≡ true → reading (w.nodes x) ≡ None) →
      (q ≡ lock_place) ⊎ (reading (w.nodes q) ≡ None)
  of_removal w p q at (inl lock) = inl lock
  of_removal w p q at (inr (inl (no_folder, above))) = absurd (true≢false (sym no_folder))
  of_removal w p q at (inr (inr gone)) = inr (gone q at)

  kept_or : (q : Path) (b : Bool) (s t : NodeState) → (b ≡ true → q ≡ lock_place) → IsTurned q s (if b then t else s)
  kept_or q true s t h = inr (inl (h refl))
  kept_or q false s t h = inl refl

  created_or :
      (q : Path) (s : NodeState) (b : Bool) (n : Option Node) → ((reads_nothing s && (b && is_some n)) ≡ true → q ≡ lock_place) →
      IsTurned q s (if reads_nothing s && b then loose n s else s)
  created_or q Owned b n h = inl refl
  created_or q (Known (Some m) besides) b n h = inl refl
  created_or q (Known None besides) false n h = inl refl
  created_or q (Known None besides) true None h = inl refl
  created_or q (Known None besides) true (Some m) h = inr (inl (h refl))

  removed_or :
      (q : Path) (s : NodeState) (b : Bool) (n : Option Node) → (b ≡ true → MayRemain n s) →
      ((b && not (reads_nothing s)) ≡ true → (q ≡ lock_place) ⊎ (reading s ≡ None)) → IsTurned q s (if b then going n s else s)
  removed_or q s false n may h = inl refl
  removed_or q Owned true n may h = inl refl
  removed_or q (Known None besides) true n may h = go (may refl)
    where
      go : MayRemain n (Known None besides) → IsTurned q (Known None besides) (going n (Known None besides))
      go (inl none) = inl none
      go (inr same) = inl (sym same)
  removed_or q (Known (Some m) besides) true n may h = go (h refl)
    where
      go : (q ≡ lock_place) ⊎ (Some m ≡ None) → IsTurned q (Known (Some m) besides) (going n (Known (Some m) besides))
      go (inl lock) = inr (inl lock)
      go (inr none) = absurd (none_some (Some m) m none refl)

  made_or :
      (q : Path) (s : NodeState) (b : Bool) → ((b && reads_nothing s) ≡ true → (q ≡ lock_place) ⊎ Above q) → IsTurned q s (if b then with_folder s else s)
  made_or q s false h = inl refl
  made_or q Owned true h = inl refl
  made_or q (Known (Some m) besides) true h = inl refl
  made_or q (Known None besides) true h = go (h refl)
    where
      go : (q ≡ lock_place) ⊎ Above q → IsTurned q (Known None besides) (with_folder (Known None besides))
      go (inl lock) = inr (inl lock)
      go (inr above) = inr (inr (above, refl, refl))

  settled_or : (q : Path) (s : NodeState) (b : Bool) → IsTurned q s (if b then firm s else s)
  settled_or q s true = inl (firm_reads s)
  settled_or q s false = inl refl

  -- a call changes no place but those that it may
  pub turned_by :
      (act : Act) (w : World) (left : List Change) (q : Path) (c : Call) → Lets act w c left → HasNoChild c →
      (changes_at c w left q ≡ true → MayChange w c q) → IsTurned q (w.nodes q) (node_after c left w.children q (w.nodes q))
  turned_by act w left q (Looked p r) lets alone may = inl refl
  turned_by act w left q (ReadFile p limit r) lets alone may = inl refl
  turned_by act w left q (ReadFolder p r) lets alone may = inl refl
  turned_by act w left q (Written p bytes r) lets alone may =
      kept_or q (bytes_eq q p) (w.nodes q) (loose (standing left q) (w.nodes q)) (λ h. of_lock q (may h))
  turned_by act w left q (Created p (Ok made)) lets alone may =
      kept_or q (made && bytes_eq q p) (w.nodes q) (loose (standing left q) (w.nodes q)) (λ h. of_lock q (may h))
  turned_by act w left q (Created p (Err e)) lets alone may =
      created_or q (w.nodes q) (bytes_eq q p) (standing left q) (λ h. of_lock q (may h))
  turned_by act w left q (Removed p (Ok u)) lets alone may =
      removed_or q (w.nodes q) (is_at_or_under q p) (standing left q) (λ b. inl (ap (λ l. standing l q) lets))
      (λ h. of_removal w p q (and_left (is_at_or_under q p) (not (reads_nothing (w.nodes q))) h) (may h))
  turned_by act w left q (Removed p (Err e)) lets alone may =
      removed_or q (w.nodes q) (is_at_or_under q p) (standing left q) (λ b. lets q b)
      (λ h. of_removal w p q (and_left (is_at_or_under q p) (not (reads_nothing (w.nodes q))) h) (may h))
  turned_by act w left q (MadeParents p (Ok u)) lets alone may = made_or q (w.nodes q) (is_under p q) (λ h. of_folder q (may h))
  turned_by act w left q (MadeParents p (Err e)) lets alone may =
      made_or q (w.nodes q) (is_some (standing left q) && is_under p q)
      (λ h. of_folder q (may (turned (is_some (standing left q)) (is_under p q) (reads_nothing (w.nodes q)) h)))
  turned_by act w left q (Settled ps (Ok u)) lets alone may =
      settled_or q (w.nodes q) (is_within q ps || (is_above q ps && reads_folder (w.nodes q)))
  turned_by act w left q (Settled ps (Err e)) lets alone may = inl refl
  turned_by act w left q (Protected p (Ok u)) lets alone may =
      kept_or q (bytes_eq q p) (w.nodes q) (with_flag (w.nodes q)) (λ h. of_lock q (may h))
  turned_by act w left q (Protected p (Err e)) lets alone may =
      kept_or q (bytes_eq q p) (w.nodes q) (going (standing left q) (with_flag (w.nodes q))) (λ h. of_lock q (may h))
  turned_by act w left q (Started recipe logs command r) lets alone may = absurd alone
  turned_by act w left q (Waited r) lets alone may = absurd alone

  pub same_children : (w : World) (left : List Change) (c : Call) → HasNoChild c → children_after c w.children ≡ w.children
  same_children w left (Looked p r) alone = refl
  same_children w left (ReadFile p limit r) alone = refl
  same_children w left (ReadFolder p r) alone = refl
  same_children w left (Written p bytes r) alone = refl
  same_children w left (Created p r) alone = refl
  same_children w left (Removed p r) alone = refl
  same_children w left (MadeParents p r) alone = refl
  same_children w left (Settled ps r) alone = refl
  same_children w left (Protected p r) alone = refl
  same_children w left (Started recipe logs command r) alone = absurd alone
  same_children w left (Waited r) alone = absurd alone

-- ## A folder

module _ (read : List ℕ → Option Record) (flow : Flow) (v : World) (L : Listings) (targets : List Path) (js : List Job) (complete : IsComplete (seen read v))
    (is : derivation flow (seen read v) L targets ≡ Derived js) where
  abbrev pub PlacesHere : Path → Type 0
  PlacesHere r = Place flow (seen read v) L targets js complete is r

  -- a place of the plan stands under it
  abbrev pub IsOver : Path → Type 0
  IsOver q = (r : Path) × PlacesHere r × (is_under r q ≡ true)

  -- From v to w nothing but the lock and folders above places of the plan has changed.
  abbrev pub IsSpared : World → Type 0
  IsSpared w = (q : Path) → IsTurned IsOver q (v.nodes q) (w.nodes q)

  module _ (w : World) (spared : IsSpared w) where
    -- what is neither the lock nor above a place of the plan
    same_at : (q : Path) → (q ≡ lock_place → ⊥) → (IsOver q → ⊥) → reading (w.nodes q) ≡ reading (v.nodes q)
    same_at q other below = go (spared q)
      where
        go : IsTurned IsOver q (v.nodes q) (w.nodes q) → reading (w.nodes q) ≡ reading (v.nodes q)
        go (inl same) = same
        go (inr (inl lock)) = absurd (other lock)
        go (inr (inr (above, none, made))) = absurd (below above)

    record_same : (p : Path) → reading (w.nodes (record_place p)) ≡ reading (v.nodes (record_place p))
    record_same p = same_at (record_place p) (record-lock p).never (λ over. none_under_record flow (seen read v) L targets js complete is p over.0 over.1 over.2)

    mark_same : (p : Path) → reading (w.nodes (mark_place p)) ≡ reading (v.nodes (mark_place p))
    mark_same p = same_at (mark_place p) (mark-lock p).never (λ over. none_under_mark flow (seen read v) L targets js complete is p over.0 over.1 over.2)

    note_same : (p : Path) → reading (w.nodes (note_place p)) ≡ reading (v.nodes (note_place p))
    note_same p = same_at (note_place p) (note-lock p).never (λ over. none_under_note flow (seen read v) L targets js complete is p over.0 over.1 over.2)

    pub kept_same : (seen read v).kept ≡ (seen read w).kept
    kept_same n p = if is_path_text p then kept_by read p (sym (record_same p) n) else Absent

    pub marked_same : (seen read v).marked ≡ (seen read w).marked
    marked_same n p = is_path_text p && is_some (sym (mark_same p) n)

    pub noted_same : (seen read v).noted ≡ (seen read w).noted
    noted_same n p = is_path_text p && is_some (sym (note_same p) n)

    pub files_same : (p : Path) → file_at (seen read w) p ≡ file_at (seen read v) p
    files_same p = go (spared p)
      where
        go : IsTurned IsOver p (v.nodes p) (w.nodes p) → file_at (seen read w) p ≡ file_at (seen read v) p
        go (inl same) = ap (λ n. content_of (if is_outside p then n else None)) same
        go (inr (inl lock)) = subst (λ q. file_at (seen read w) q ≡ file_at (seen read v) q) (sym lock) refl
        go (inr (inr (above, none, made))) =
            ap (λ n. content_of (if is_outside p then n else None)) made
            ∙ (no_content (is_outside p) ∙ sym (ap (λ n. content_of (if is_outside p then n else None)) none))

    -- at and under an output all is as it was
    pub inside_same :
        (k : Job) (p q : Path) → IsIn js k → IsIn (out_paths k.recipe) p → is_at_or_under q p ≡ true → reading (w.nodes q) ≡ reading (v.nodes q)
    inside_same k p q ik o at = same_at q not_lock none_over
      where
        not_lock : q ≡ lock_place → ⊥
        not_lock lock =
            never_both (is_at_or_under lock_place p) (subst (λ x. is_at_or_under x p ≡ true) lock at)
            (path-own p lock_place (out_is_path flow (seen read v) L targets js complete is k p ik o) refl).at_or_over

        deeper : (r : Path) → is_under r q ≡ true → (q ≡ p) ⊎ (is_under q p ≡ true) → is_under r p ≡ true
        deeper r u (inl same) = subst (λ x. is_under r x ≡ true) same u
        deeper r u (inr under) = under_further r q p u under

        none_over : IsOver q → ⊥
        none_over over =
            none_under_out flow (seen read v) L targets js complete is k p over.0 ik o over.1 (deeper over.0 over.2 (at_or_under_cases q p at))

    pub whole_is :
        IsFormed v → IsFormed w → (k : Job) (p : Path) (kind : Kind) → IsIn js k → IsIn (out_paths k.recipe) p →
        is_whole (seen read w) p kind ≡ is_whole (seen read v) p kind
    whole_is formed formed2 k p kind ik o = whole_same read v w formed formed2 p (λ q at. inside_same k p q ik o at) kind kept_same

  -- after one more call that may change no other place
  pub spared_on :
      (act : Act) (w : World) (c : Call) (left : List Change) → IsSpared w → Lets act w c left → HasNoChild IsOver c →
      ((q : Path) → changes_at c w left q ≡ true → MayChange IsOver w c q) → IsSpared (after w (record { call = c; left = left }))
  spared_on act w c left spared lets alone may q =
      turned_on IsOver q (v.nodes q) (w.nodes q) (node_after c left w.children q (w.nodes q)) (spared q) (turned_by IsOver act w left q c lets alone (may q))
