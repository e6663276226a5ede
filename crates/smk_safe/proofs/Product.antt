-- What was made by a turn is at hand afterwards.
use Rattle.std.proofs.Common.{◌≡◌, inl, inr, ℕ, Bool, true, false, ◌&&◌, ◌||◌, not, List, [], ◌∷◌, map, refl, ap, sym, subst, ◌∙◌, bytes_eq, Option, Some, None, IsTrue, true≢false}
use Rattle.std.specs.Prelude.{is_some, filter, option_map, if◌then◌else◌}
use lib.Pointwise.{pointwise}
use Rattle.smk_base.specs.Path.{is_path}
use Rattle.smk_base.specs.Place.{record_place, mark_place}
use Rattle.smk_base.proofs.Places.{and_first, place_itself, same_place}
use Rattle.smk_base.proofs.Under.{both_true}
use Rattle.smk_base.proofs.Apart.{path_outside}
use Rattle.smk_world.specs.declared.event.Node.TheVariants.{Regular, Directory}
use Rattle.smk_world.specs.declared.event.NodeState.{NodeState}
use Rattle.smk_world.specs.declared.event.NodeState.TheVariants.{Owned, Known}
use Rattle.smk_world.specs.declared.recipe.Kind.{Kind}
use Rattle.smk_world.specs.declared.recipe.Kind.TheVariants.{Plain, Folder as FolderKind}
use Rattle.smk_world.specs.declared.recipe.Out.{Out}
use Rattle.smk_world.specs.declared.recipe.Recipe.{Recipe}
use Rattle.smk_world.specs.World.{World, IsFormed, reading, firmly, out_paths, is_named, reads_folder}
use Rattle.smk_world.specs.Trees.{Path, Act, Each, IsIn, among, outs_of, folders_of, is_folder_kind, is_path_text, is_text, kind_in}
use Rattle.smk_record.specs.declared.record.Member.{Member}
use Rattle.smk_record.specs.declared.record.Record.{Record}
use Rattle.smk_record.specs.declared.record.Stamp.TheVariants.{Made}
use Rattle.smk_record.specs.Records.{core, record_of, members_of, are_none, are_valid_members, same_member}
use Rattle.smk_record.specs.Spelling.{ReadsRecords}
use Rattle.smk_store.specs.declared.store.Kept.TheVariants.{Absent, Held}
use Rattle.smk_store.specs.Images.{content_of, is_directory, readable, kept_by, core_at, is_folder, is_whole, members_under, seen}
use Rattle.smk_store.specs.Soundness.{Outside}
use Rattle.smk_store_members.specs.Members.{AllIsFound}
use Rattle.smk_laws_protocol.specs.Protocol.{IsProductAt, now}
use Rattle.smk_laws_protocol.proofs.Basics.{each_in}
use Rattle.smk_laws_protocol.proofs.SoundViews.{itself}
use Rattle.smk_laws_job.specs.Laws.{IsRecordable}
use Rattle.smk_job.specs.Sights.{IsOfKind, reads_file}
use Rattle.smk_job.proofs.Outs.{paths_same}
use Rattle.smk_laws_job.proofs.Readable.{read_back}
use Rattle.smk_store_members.proofs.Under.{same_members}
use Rattle.smk_laws_plan.proofs.CurrentLists.{map_in, in_map}
use Rattle.smk_laws_plan.proofs.CurrentPaths.{among_in}
use Rattle.smk_laws_history.proofs.HistoryImages.{held_no_source}
use Rattle.smk_run.specs.Turns.{Turn, found}
use Rattle.smk_safe.specs.Leaving.{IsRecorded}
use Rattle.smk_safe.specs.Running.{IsMade}
use Rattle.smk_safe.proofs.Kept.{AreDifferent}
use Rattle.smk_safe.specs.Turning.{opened}
use Rattle.smk_safe.proofs.Images.{holder_own, members_agree}

-- ## The kind of an output

abbrev paths_of : List Out → List Path
paths_of outs = map (λ (out : Out). out.path) outs

abbrev folders_in : List Out → List Path
folders_in outs = map (λ (out : Out). out.path) (filter (λ (out : Out). is_folder_kind out.kind) outs)

differ_named : (p q : Path) (ps : List Path) → (p ≡ q → ⊥) → (bytes_eq q p || is_named q ps) ≡ is_named q ps
differ_named p q ps h = go (bytes_eq q p) refl
  where
    go : (b : Bool) → bytes_eq q p ≡ b → (b || is_named q ps) ≡ is_named q ps
    go true e = absurd (h (sym (same_place q p e)))
    go false e = refl

not_among : (p : Path) (outs : List Out) → Each (λ q. p ≡ q → ⊥) (paths_of outs) → is_named p (folders_in outs) ≡ false
not_among p [] h = refl
not_among p (x ∷ outs) h = go (is_folder_kind x.kind) refl (not_among p outs h.1)
  where
    go : (b : Bool) → is_folder_kind x.kind ≡ b → is_named p (folders_in outs) ≡ false → is_named p (map (λ (out : Out). out.path) (if b then x ∷ filter (λ (out : Out). is_folder_kind out.kind) outs else filter (λ (out : Out). is_folder_kind out.kind) outs)) ≡ false
    go true e k = differ_named x.path p (folders_in outs) (λ s. h.0 (sym s)) ∙ k
    go false e k = k

kind_told : (outs : List Out) (out : Out) → AreDifferent (paths_of outs) → IsIn outs out → is_named out.path (folders_in outs) ≡ is_folder_kind out.kind
kind_told [] out differ i = absurd i
kind_told (x ∷ outs) out differ (inl e) = subst (λ (y : Out). is_named y.path (folders_in (x ∷ outs)) ≡ is_folder_kind y.kind) (sym e) (go (is_folder_kind x.kind) refl)
  where
    go : (b : Bool) → is_folder_kind x.kind ≡ b → is_named x.path (map (λ (o : Out). o.path) (if b then x ∷ filter (λ (o : Out). is_folder_kind o.kind) outs else filter (λ (o : Out). is_folder_kind o.kind) outs)) ≡ b
    go true k = ap (λ b. b || is_named x.path (folders_in outs)) (place_itself x.path)
    go false k = not_among x.path outs differ.0
kind_told (x ∷ outs) out differ (inr i) = go (is_folder_kind x.kind) refl (kind_told outs out differ.1 i)
  where
    go : (b : Bool) → is_folder_kind x.kind ≡ b → is_named out.path (folders_in outs) ≡ is_folder_kind out.kind
        → is_named out.path (map (λ (o : Out). o.path) (if b then x ∷ filter (λ (o : Out). is_folder_kind o.kind) outs else filter (λ (o : Out). is_folder_kind o.kind) outs)) ≡ is_folder_kind out.kind
    go true k rest = differ_named x.path out.path (folders_in outs) (λ s. each_in (λ q. x.path ≡ q → ⊥) (paths_of outs) out.path differ.0 (in_map (λ (o : Out). o.path) outs out i) s) ∙ rest
    go false k rest = rest

kind_by : (k : Kind) (b : Bool) → b ≡ is_folder_kind k → (if b then FolderKind else Plain) ≡ k
kind_by Plain b e = ap (λ x. if x then FolderKind else Plain) e
kind_by FolderKind b e = ap (λ x. if x then FolderKind else Plain) e

-- ## What stands there

file_there : (s : NodeState) → reads_file s ≡ true → is_some (content_of (reading s)) ≡ true
file_there Owned h = absurd (true≢false (sym h))
file_there (Known None besides) h = absurd (true≢false (sym h))
file_there (Known (Some Directory) besides) h = absurd (true≢false (sym h))
file_there (Known (Some (Regular bytes time read_only)) besides) h = refl

folder_there : (s : NodeState) → reads_folder s ≡ true → is_directory (reading s) ≡ true
folder_there Owned h = absurd (true≢false (sym h))
folder_there (Known None besides) h = absurd (true≢false (sym h))
folder_there (Known (Some Directory) besides) h = refl
folder_there (Known (Some (Regular bytes time read_only)) besides) h = absurd (true≢false (sym h))

node_there : (read : List ℕ → Option Record) (w : World) (p : Path) → is_path p ≡ true → (seen read w).node p ≡ reading (w.nodes p)
node_there read w p path = ap (λ b. if not b then reading (w.nodes p) else None) (path_outside p path)

-- the members that a record may have of an output of this kind
members_for : (k : Kind) (recipe : Recipe) (p : Path) (w : World) (ms : List Member) → among (folders_of recipe) p ≡ is_folder_kind k → IsOfKind w.nodes p k ms
    → (if among (folders_of recipe) p then are_valid_members p ms else are_none ms) ≡ true
members_for Plain recipe p w ms e h = ap (λ b. if b then are_valid_members p ms else are_none ms) e ∙ ap are_none h.1
members_for FolderKind recipe p w ms e h = ap (λ b. if b then are_valid_members p ms else are_none ms) e ∙ h.1.valid

module _ (o : Outside) (t : Turn) (w : World) (formed : IsFormed w) (reads : ReadsRecords o.read) where
  -- the record of an output, with its members
  abbrev recorded_as : Path → List Member → Record
  recorded_as p ms = record_of p t.made t.job.recipe (found t.looked) ms

  pub kept_there : (out : Out) (r : IsRecorded t w out) → is_path_text out.path ≡ true → IsRecordable (opened t []) out.path → among (folders_of t.job.recipe) out.path ≡ is_folder_kind out.kind
      → (seen o.read w).kept out.path ≡ Held (recorded_as out.path r.members)
  kept_there out r path recordable kind =
      ap (λ b. if b then kept_by o.read out.path (reading (w.nodes (record_place out.path))) else Absent) path
      ∙ ap (λ (s : NodeState). kept_by o.read out.path (reading s)) r.stands
      ∙ read_back o.read out.path t.made t.job.recipe (found t.looked) r.members r.time r.read_only reads recordable.valid recordable.writable recordable.short
      (members_for out.kind t.job.recipe out.path w r.members kind r.kind)

  pub whole_there : (out : Out) (k : Kind) (ms : List Member) → is_path_text out.path ≡ true → (k ≡ FolderKind → AllIsFound w.nodes out.path) → (seen o.read w).kept out.path ≡ Held (recorded_as out.path ms)
      → IsOfKind w.nodes out.path k ms → is_whole (seen o.read w) out.path k ≡ true
  whole_there out Plain ms path found_all kept h = ap (λ n. is_some (content_of n)) (node_there o.read w out.path (and_first (is_path out.path) _ path)) ∙ file_there (w.nodes out.path) h.0
  whole_there out FolderKind ms path found_all kept h =
      let p = out.path in
      let user = and_first (is_path p) (is_text p) path in
      let members = same_members o.read w p formed user ms (found_all refl) h.1 in
      both_true (is_folder (seen o.read w) p) _
      (ap is_directory (node_there o.read w p user) ∙ folder_there (w.nodes p) h.0)
      (ap (λ k. is_some (readable k) && pointwise same_member (members_under (seen o.read w) p) (members_of (readable k))) kept
      ∙ ap (λ l. pointwise same_member l ms) (sym members) ∙ members_agree ms)

  pub unmarked_there : (p : Path) → w.nodes (mark_place p) ≡ firmly None → (seen o.read w).marked p ≡ false
  unmarked_there p h = ap (λ (s : NodeState). is_path_text p && is_some (reading s)) h ∙ never (is_path_text p)
    where
      never : (b : Bool) → (b && false) ≡ false
      never true = refl
      never false = refl

  product_of : (out : Out) → IsRecorded t w out → IsIn (outs_of t.job.recipe) out → AreDifferent (paths_of (outs_of t.job.recipe)) → is_path_text out.path ≡ true → IsRecordable (opened t []) out.path
      → (is_folder_kind out.kind ≡ true → AllIsFound w.nodes out.path) → w.nodes (mark_place out.path) ≡ firmly None → IsProductAt o (now o w) out.path (Made t.made)
  product_of out r i differ path recordable found_all unmarked =
      let p = out.path in
      let kind = kind_told (outs_of t.job.recipe) out differ i in
      let kept = kept_there out r path recordable kind in
      let core_is : core_at (seen o.read w) p ≡ Some (recorded_as p []) = ap (λ k. option_map core (readable k)) kept in
      let speaks = holder_own (seen o.read w) p (recorded_as p []) core_is in
      let kind_is : kind_in t.job.recipe p ≡ out.kind = kind_by out.kind (among (folders_of t.job.recipe) p) kind in
      record {
        speaker = p;
        by = recorded_as p [];
        speaks = record { no_source = held_no_source (seen o.read w) p p speaks; holder = speaks; clear = (core_is, inl (unmarked_there p unmarked)) };
        same = itself t.made t.made refl;
        whole = ap (is_whole (seen o.read w) p) kind_is ∙ whole_there out out.kind r.members path (λ e. found_all (ap is_folder_kind e)) kept r.kind;
        part = inl refl;
      }

  -- each output of the turn
  pub made_product : (act : Act) (p : Path) → IsMade act w t → IsIn (out_paths t.job.recipe) p → AreDifferent (out_paths t.job.recipe)
      → Each (λ q. IsTrue (is_path_text q)) (out_paths t.job.recipe) → Each (IsRecordable (opened t [])) (out_paths t.job.recipe) → Each (AllIsFound w.nodes) (folders_of t.job.recipe)
      → IsProductAt o (now o w) p (Made t.made)
  made_product act p is i differ paths recordable found_all =
      let same = paths_same t.job.recipe.outputs in
      let at = map_in (λ (out : Out). out.path) (outs_of t.job.recipe) p (subst (λ ps. IsIn ps p) (sym same) i) in
      let out = at.0 in
      let here : IsIn (out_paths t.job.recipe) out.path = subst (IsIn (out_paths t.job.recipe)) at.2 i in
      let differ_outs : AreDifferent (paths_of (outs_of t.job.recipe)) = subst AreDifferent (sym same) differ in
      let kind = kind_told (outs_of t.job.recipe) out differ_outs at.1 in
      subst (λ q. IsProductAt o (now o w) q (Made t.made)) (sym at.2)
      (product_of out (each_in (IsRecorded t w) (outs_of t.job.recipe) out is.recorded at.1) at.1 differ_outs
      (each_in (λ q. IsTrue (is_path_text q)) (out_paths t.job.recipe) out.path paths here)
      (each_in (IsRecordable (opened t [])) (out_paths t.job.recipe) out.path recordable here)
      (λ folder. each_in (AllIsFound w.nodes) (folders_of t.job.recipe) out.path found_all (among_in (folders_of t.job.recipe) out.path (kind ∙ folder)))
      (each_in (λ q. w.nodes (mark_place q) ≡ firmly None) (out_paths t.job.recipe) out.path is.unmarked here))
