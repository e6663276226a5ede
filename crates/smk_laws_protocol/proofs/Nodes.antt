-- What stands at and under the paths of an open job changes, under its firm marks and notes: outputs are removed, a child starts or ends.
use Rattle.std.proofs.Common.{◌≡◌, Bool, true, false, List, refl, sym, ap, subst, ◌∙◌, Some, None}
use Rattle.std.specs.Prelude.{IsTrue, IsSome, if◌then◌else◌}
use Rattle.smk_record.specs.declared.record.Record.{Record}
use Rattle.smk_world.specs.Trees.{Path, among, is_path_text}
use Rattle.smk_store.specs.Images.{is_outside}
use Rattle.smk_store.specs.Trust.{Versions, Eased}
use Rattle.smk_laws_protocol.proofs.View.{View, Sound, source_at, is_covered, file_of}
use Rattle.smk_laws_protocol.proofs.Views.{Nodes, EachImage, HasNames, reads, Leaves, view_of, view_by, path_node}
use Rattle.smk_world.specs.World.{World, MayLeave, is_within, IsRising}
use Rattle.smk_base.specs.Place.{mark_place, record_place, note_place}
use Rattle.smk_store.specs.Soundness.{Outside}
use Rattle.smk_laws_protocol.proofs.Rows.{now}
use Rattle.smk_laws_protocol.proofs.Between.{HasSources}
use Rattle.smk_laws_protocol.proofs.Moves.{with_nodes, SameAt, node_sound, node_source_at}
use Rattle.smk_laws_protocol.proofs.Marking.{reads_stay}

-- outside these places nothing changes, and what reads isn't looked at inside
pub record ChangesWithin (w w' : World) (places : List Path) : Type 0 where
  pub others : (q : Path) → is_within q places ≡ false → w'.nodes q ≡ w.nodes q

-- none of the engine's places is within these
pub record AreOutside (places : List Path) : Type 0 where
  pub record_out : (q : Path) → is_within (record_place q) places ≡ false
  pub mark_out : (q : Path) → is_within (mark_place q) places ≡ false
  pub note_out : (q : Path) → is_within (note_place q) places ≡ false

module _ (o : Outside) (entry : World) (H : Versions) (e : Eased) (w w' : World) (places : List Path) (changes : ChangesWithin w w' places) (out : AreOutside places) where
  -- the image with what read before at and under the places
  abbrev pub before : Nodes → Nodes
  before g q = if is_within q places then reads w q else g q

  before_other : (g : Nodes) (q : Path) → is_within q places ≡ false → before g q ≡ g q
  before_other g q h = rw h refl

  before_leaves : (g : Nodes) → Leaves w' g → Leaves w (before g)
  before_leaves g leaves q = go (is_within q places) refl
    where
      go : (a : Bool) → is_within q places ≡ a → MayLeave (w.nodes q) (if a then reads w q else g q)
      go true h = reads_stay (w.nodes q)
      go false h = subst (λ s. MayLeave s (g q)) (changes.others q h) (leaves q)

  before_names : (names : List Path) (g : Nodes) → HasNames names g → HasNames names (reads w) → HasNames names (before g)
  before_names names g complete covered q = go (is_within q places)
    where
      go : (a : Bool) → IsSome (if a then reads w q else g q) → IsTrue (among names q)
      go true h = covered q h
      go false h = complete q h

  -- the image after, by the one before
  abbrev pub after_view : List Path → Nodes → View
  after_view names g =
      let v = view_of o.read names g in
      with_nodes (view_of o.read names (before g)) v.file v.is_folder v.members v.tree

  pub after_is : (names : List Path) (g : Nodes) → after_view names g ≡ view_of o.read names g
  after_is names g i =
      view_by o.read names (path_node g)
      (λ q. if is_path_text q then before_other g (record_place q) (out.record_out q) i else None)
      (λ q. if is_path_text q then before_other g (mark_place q) (out.mark_out q) i else None)
      (λ q. if is_path_text q then before_other g (note_place q) (out.note_out q) i else None)

  path_same : (g : Nodes) (q : Path) → is_within q places ≡ false → path_node g q ≡ path_node (before g) q
  path_same g q h = ap (λ n. if is_outside q then n else None) (sym (before_other g q h))

  -- 3. every image is sound, with the same sources: what is within the places is covered, and no unmarked record overlaps them
  pub nodes_safe :
      EachImage o.read w (λ v. Sound o.act H v e) → EachImage o.read w (HasSources o (now o entry)) →
      EachImage o.read w (λ v. (q : Path) → is_within q places ≡ true → is_covered v q ≡ true) →
      (names : List Path) (g : Nodes) → IsRising names → HasNames names g → HasNames names (reads w) → Leaves w' g →
      ((q : Path) (r : Record) → (view_of o.read names (before g)).record_at q ≡ Some r → (view_of o.read names (before g)).marked q ≡ false → SameAt (view_of o.read names (before g)) (view_of o.read names g) q) →
      Sound o.act H (view_of o.read names g) e × HasSources o (now o entry) (view_of o.read names g)
  nodes_safe sound sources covers names g rising complete covered leaves same = (
    subst (λ v. Sound o.act H v e) (after_is names g)
        (node_sound v (λ q. is_within q places) e x.file x.is_folder x.members x.tree there files same_here o.act H
        (sound names (before g) rising (before_names names g complete covered) covered (before_leaves g leaves))),
    λ q. subst (λ (u : View). source_at u q ≡ source_at (now o entry) q) (after_is names g)
        (node_source_at v (λ q. is_within q places) e x.file x.is_folder x.members x.tree there files same_here q
        ∙ sources names (before g) rising (before_names names g complete covered) covered (before_leaves g leaves) q),
  )
    where
      v : View
      v = view_of o.read names (before g)

      x : View
      x = view_of o.read names g

      same_here : (q : Path) (r : Record) → v.record_at q ≡ Some r → v.marked q ≡ false → SameAt v (after_view names g) q
      same_here q r at unmarked = let k = same q r at unmarked in record { file = k.file; folder = k.folder; members = k.members; tree = k.tree }

      there : (q : Path) → is_within q places ≡ true → is_covered (view_of o.read names (before g)) q ≡ true
      there = covers names (before g) rising (before_names names g complete covered) covered (before_leaves g leaves)

      files : (q : Path) → is_within q places ≡ false → file_of (path_node g q) ≡ file_of (path_node (before g) q)
      files q h = ap file_of (path_same g q h)
