-- A record is written, or removed, under a firm mark.
use Rattle.std.proofs.Common.{◌≡◌, Bool, true, false, List, refl, sym, ap, subst, ◌∙◌, Option, Some, None}
use Rattle.std.specs.Prelude.{bytes_eq, IsTrue, IsSome, is_some, option_map, if◌then◌else◌}
use Rattle.smk_world.specs.declared.event.Node.{Node}
use Rattle.smk_record.specs.declared.record.Record.{Record}
use Rattle.smk_record.specs.declared.record.Member.{Member}
use Rattle.smk_world.specs.Trees.{Path, among, is_path_text}
use Rattle.smk_store.specs.Images.{is_outside}
use Rattle.smk_store.specs.Trust.{Versions, Eased}
use Rattle.smk_record.specs.Records.{members_of, core}
use Rattle.smk_laws_protocol.proofs.View.{View, Clear, Sound, source_at, holder}
use Rattle.smk_laws_protocol.proofs.Views.{Nodes, EachImage, HasNames, reads, Leaves, view_of, view_by, path_node, place_node, read_at}
use Rattle.smk_world.specs.World.{World, MayLeave, IsRising}
use Rattle.smk_base.specs.Path.{is_at_or_under}
use Rattle.smk_base.specs.Place.{mark_place, record_place, note_place}
use Rattle.smk_store.specs.Soundness.{Outside}
use Rattle.smk_laws_protocol.proofs.Rows.{now}
use Rattle.smk_laws_protocol.proofs.Between.{HasSources}
use Rattle.smk_laws_protocol.proofs.Like.{IsLike}
use Rattle.smk_laws_protocol.proofs.Moves.{with_record, record_sound, record_source}
use Rattle.smk_laws_protocol.proofs.Places.{over, over_other}
use Rattle.smk_laws_protocol.proofs.Marking.{reads_stay}

pub record RecordLaws : Type 0 where
  pub record_record : (p q : Path) → bytes_eq q p ≡ false → is_at_or_under (record_place q) (record_place p) ≡ false
  pub record_mark : (p q : Path) → is_at_or_under (mark_place q) (record_place p) ≡ false
  pub record_note : (p q : Path) → is_at_or_under (note_place q) (record_place p) ≡ false
  pub record_path : (p q : Path) → is_outside q ≡ true → is_at_or_under q (record_place p) ≡ false

module _ (o : Outside) (laws : RecordLaws) (entry : World) (H : Versions) (e e' : Eased) (w w' : World) (p : Path)
    (others : (q : Path) → is_at_or_under q (record_place p) ≡ false → w'.nodes q ≡ w.nodes q) where
  -- the image with the record as it reads before
  abbrev pub before : Nodes → Nodes
  before g = over g (record_place p) (reads w)

  before_leaves : (g : Nodes) → Leaves w' g → Leaves w (before g)
  before_leaves g leaves q = go (is_at_or_under q (record_place p)) refl
    where
      go : (a : Bool) → is_at_or_under q (record_place p) ≡ a → MayLeave (w.nodes q) (if a then reads w q else g q)
      go true h = reads_stay (w.nodes q)
      go false h = subst (λ s. MayLeave s (g q)) (others q h) (leaves q)

  before_names : (names : List Path) (g : Nodes) → HasNames names g → HasNames names (reads w) → HasNames names (before g)
  before_names names g complete covered q = go (is_at_or_under q (record_place p))
    where
      go : (a : Bool) → IsSome (if a then reads w q else g q) → IsTrue (among names q)
      go true h = covered q h
      go false h = complete q h

  path_same : (g : Nodes) (q : Path) → path_node (before g) q ≡ path_node g q
  path_same g q = go (is_outside q) refl
    where
      go : (b : Bool) → is_outside q ≡ b → (if b then before g q else None) ≡ (if b then g q else None)
      go true h = over_other g (reads w) (record_place p) q (laws.record_path p q h)
      go false h = refl

  -- the image after, by the one before
  abbrev pub after_view : List Path → Nodes → View
  after_view names g = with_record (view_of o.read names (before g)) (λ q. is_some (place_node g record_place q)) (λ q. option_map core (read_at o.read q (place_node g record_place q))) (λ q. members_of (read_at o.read q (place_node g record_place q)))

  pub after_is : (names : List Path) (g : Nodes) → after_view names g ≡ view_of o.read names g
  after_is names g i =
      view_by o.read names (λ q. path_same g q i)
      (place_node g record_place)
      (λ q. if is_path_text q then over_other g (reads w) (record_place p) (mark_place q) (laws.record_mark p q) i else None)
      (λ q. if is_path_text q then over_other g (reads w) (record_place p) (note_place q) (laws.record_note p q) i else None)

  pub place_same : (g : Nodes) (q : Path) → bytes_eq q p ≡ false → place_node g record_place q ≡ place_node (before g) record_place q
  place_same g q h = ap (λ n. if is_path_text q then n else None) (sym (over_other g (reads w) (record_place p) (record_place q) (laws.record_record p q h)))

  -- 4. every image is sound, with the same sources
  pub record_safe :
      EachImage o.read w (λ v. Sound o.act H v e) → EachImage o.read w (HasSources o (now o entry)) →
      EachImage o.read w (λ v. v.marked p ≡ true) →
      ((q : Path) (r : Record) → e' q r → e q r) →
      -- where its record is still kept for a Restore, one that vouches for the same reads
      ((names : List Path) (g : Nodes) (r : Record) → e' p r → (s : Record) × ((view_of o.read names (before g)).record_at p ≡ Some s) × e p s × IsLike H r s) →
      (names : List Path) (g : Nodes) → IsRising names → HasNames names g → HasNames names (reads w) → Leaves w' g →
      -- no other record speaks for what it spoke for
      ((q h : Path) (r : Record) → holder (after_view names g) q ≡ Some h → Clear (after_view names g) e' h r → holder (view_of o.read names (before g)) q ≡ Some h) →
      Sound o.act H (view_of o.read names g) e' × HasSources o (now o entry) (view_of o.read names g)
  record_safe sound sources marked fewer kept names g rising complete covered leaves holders = (
    subst (λ v. Sound o.act H v e') (after_is names g)
        (record_sound H v p has at list e e' mark has_same at_same list_same fewer (kept names g) holders o.act
        (sound names (before g) rising (before_names names g complete covered) covered (before_leaves g leaves))),
    λ q. subst (λ (u : View). source_at u q ≡ source_at (now o entry) q) (after_is names g)
        (ap (λ b. if b then (view_of o.read names (before g)).file q else None) (record_source H v p has at list e e' mark has_same at_same list_same fewer (kept names g) holders q)
        ∙ sources names (before g) rising (before_names names g complete covered) covered (before_leaves g leaves) q),
  )
    where
      v : View
      v = view_of o.read names (before g)

      has : Path → Bool
      has q = is_some (place_node g record_place q)

      at : Path → Option Record
      at q = option_map core (read_at o.read q (place_node g record_place q))

      list : Path → List Member
      list q = members_of (read_at o.read q (place_node g record_place q))

      list_same : (q : Path) → bytes_eq q p ≡ false → members_of (read_at o.read q (place_node g record_place q)) ≡ members_of (read_at o.read q (place_node (before g) record_place q))
      list_same q h = ap (λ n. members_of (read_at o.read q n)) (place_same g q h)

      mark : (view_of o.read names (before g)).marked p ≡ true
      mark = marked names (before g) rising (before_names names g complete covered) covered (before_leaves g leaves)

      has_same : (q : Path) → bytes_eq q p ≡ false → is_some (place_node g record_place q) ≡ is_some (place_node (before g) record_place q)
      has_same q h = ap (λ (n : Option Node). is_some n) (place_same g q h)

      at_same : (q : Path) → bytes_eq q p ≡ false → option_map core (read_at o.read q (place_node g record_place q)) ≡ option_map core (read_at o.read q (place_node (before g) record_place q))
      at_same q h = ap (λ n. option_map core (read_at o.read q n)) (place_same g q h)
