-- What stands at and under paths of an open job changes, under its firm marks and notes: an output is removed, a child starts or ends.
use Rattle.std.proofs.Common.{◌≡◌, ℕ, Bool, true, false, List, refl, sym, ap, subst, inl, ◌∙◌, Some, None}
use Rattle.std.specs.Prelude.{IsTrue, if◌then◌else◌}
use Rattle.std.specs.List.{list_any}
use Rattle.smk_record.specs.declared.record.Record.{Record}
use Rattle.smk_world.specs.Trees.{Path, IsIn}
use Rattle.smk_base.specs.Path.{overlaps, is_at_or_under}
use Rattle.smk_store.specs.Images.{is_outside, is_directory}
use Rattle.smk_store.specs.Trust.{Versions, Eased, none_eased}
use Rattle.smk_laws_protocol.proofs.View.{View, Sound, file_of}
use Rattle.smk_laws_protocol.proofs.Views.{Nodes, EachImage, HasNames, reads, view_of}
use Rattle.smk_world.specs.World.{World, IsFormed, is_within}
use Rattle.smk_base.specs.Place.{mark_place, record_place, note_place}
use Rattle.smk_store.specs.Soundness.{Outside}
use Rattle.smk_laws_protocol.specs.Protocol.{OpenJob, own}
use Rattle.smk_laws_protocol.proofs.Rows.{now}
use Rattle.smk_laws_protocol.proofs.Between.{Fits, Images, HasNoNew, HasNoClash, HasSources}
use Rattle.smk_laws_protocol.proofs.Basics.{each_in, none_by, by_test, clash}
use Rattle.smk_laws_protocol.proofs.Change.{Change, Counts}
use Rattle.smk_laws_protocol.proofs.Guarded.{IsGuarded, guarded_covered, free_under}
use Rattle.smk_laws_protocol.proofs.Law.{sound_less}
use Rattle.smk_laws_protocol.proofs.Moves.{SameAt}
use Rattle.smk_laws_protocol.proofs.Naming.{IsWide, each_image, of_wide}
use Rattle.smk_laws_protocol.proofs.Nodes.{ChangesWithin, AreOutside, after_view, after_is, nodes_safe}
use Rattle.smk_base.proofs.Places.{place_itself}
use Rattle.smk_laws_protocol.proofs.Texts.{Texts}
use Rattle.smk_laws_protocol.proofs.Turns.{Turn, turn_within, Pair, known_by, each_pair_change, of_pair, fewer_counts}

pub places_outside : (o : Outside) (texts : Texts o.read) (places : List Path) → ((p : Path) → IsIn places p → is_outside p ≡ true) → AreOutside places
places_outside o texts places paths =
    record {
      record_out = λ q. none_by (is_at_or_under (record_place q)) places (λ p i. texts.outside.record_out p q (paths p i));
      mark_out = λ q. none_by (is_at_or_under (mark_place q)) places (λ p i. texts.outside.mark_out p q (paths p i));
      note_out = λ q. none_by (is_at_or_under (note_place q)) places (λ p i. texts.outside.note_out p q (paths p i));
    }

module _
    (o : Outside) (texts : Texts o.read) (entry : World) (H : Versions) (j : OpenJob) (e e' : Eased) (top : ℕ) (steady : Bool) (w w' : World)
    (m : Images o entry H e top steady w) (fewer : (p : Path) (r : Record) → e' p r → e p r)
    (formed : IsFormed w') (covered : HasNames w'.names (reads w))
    (places : List Path) (own_places : (p : Path) → IsIn places p → IsIn (own j) p) (changes : ChangesWithin w w' places) (out : AreOutside places) where
  abbrev pub turn : Turn w w'
  turn = turn_within w w' formed covered (λ q. is_within q places) changes.others

  view_is : (names : List Path) (g : Nodes) → after_view o entry H e w w' places changes out names g ≡ view_of o.read names g
  view_is names g = after_is o entry H e w w' places changes out names g

  agrees : (g : Nodes) (x : Path) → list_any (overlaps x) (own j) ≡ false → (q : Path) → is_at_or_under q x ≡ true → g q ≡ turn.before g q
  agrees g x free q under = ap (λ (b : Bool). if b then reads w q else g q) (sym (free_under texts.overlap j places own_places x q free under))

  at_self : (x : Path) → is_at_or_under x x ≡ true
  at_self x = rw (place_itself x) refl

  pub nodes_same : (names : List Path) (g : Nodes) → IsWide w w' names g → (x : Path) → list_any (overlaps x) (own j) ≡ false → SameAt (view_of o.read names (turn.before g)) (view_of o.read names g) x
  nodes_same names g i x free =
      let f = texts.folders names names g (turn.before g) x i.image.rising i.image.rising i.image.complete (turn.image names g i).complete (λ q u k. agrees g x free q u) in
      record {
        file = λ k. file_of (if is_outside x then agrees g x free x (at_self x) k else None);
        folder = λ k. is_directory (if is_outside x then agrees g x free x (at_self x) k else None);
        members = f.0;
        tree = f.1;
      }

  pub pair : (names : List Path) (g : Nodes) → IsWide w w' names g → Pair H j e e' (view_of o.read names (turn.before g)) (view_of o.read names g)
  pair names g i =
      record {
        differs = record {
          nodes = nodes_same names g i;
          records = λ x f. record {
            has = sym (ap (λ (v : View). v.has_record x) (view_is names g));
            at = sym (ap (λ (v : View). v.record_at x) (view_is names g));
            listed = sym (ap (λ (v : View). v.listed x) (view_is names g));
          };
          marks = λ x f. sym (ap (λ (v : View). v.marked x) (view_is names g));
        };
        counts = subst (λ v. Counts H j (view_of o.read names (turn.before g)) e v e') (view_is names g) (fewer_counts H j (view_of o.read names (turn.before g)) e e' fewer);
        none_counts = subst (λ v. Counts H j (view_of o.read names (turn.before g)) none_eased v none_eased) (view_is names g) (fewer_counts H j (view_of o.read names (turn.before g)) none_eased none_eased (λ p r h. h));
      }

  abbrev SameNew : View → View → Type 0
  SameNew v v' = ((q : Path) → v'.record_at q ≡ v.record_at q) × ((q : Path) → v'.listed q ≡ v.listed q) × ((q : Path) → v'.marked q ≡ v.marked q)

  new_pair : (names : List Path) (g : Nodes) → SameNew (view_of o.read names (turn.before g)) (view_of o.read names g)
  new_pair names g =
      (λ q. sym (ap (λ (v : View). v.record_at q) (view_is names g)), λ q. sym (ap (λ (v : View). v.listed q) (view_is names g)), λ q. sym (ap (λ (v : View). v.marked q) (view_is names g)))

  same_new : SameNew (now o w) (now o w')
  same_new = of_pair o texts.naming w w' m.formed turn SameNew (λ names g k. new_pair names g)

  new_on : (v v' : View) → SameNew v v' → HasNoNew o (now o w) v → HasNoNew o (now o w') v'
  new_on v v' same h q r at unmarked =
      let k = h q r (sym (same.0 q) ∙ at) (sym (same.2 q) ∙ unmarked) in
      (same_new.0 q ∙ k.0, same_new.1 q ∙ k.1 ∙ sym (same.1 q))

  -- where each image is sound, with the same sources
  pub node_change_by : EachImage o.read w' (λ v. Sound o.act H v e × HasSources o (now o entry) v) → Change o entry H j e e' w w'
  node_change_by safe =
      each_pair_change o texts.naming entry H j e e' w w' m.formed turn pair
      (λ names g k q i is. known_by o texts.naming entry H e top steady w w' turn m (λ names g k q. sym (ap (λ (v : View). v.has_record q) (view_is names g))) (λ names g k q h. sym (ap (λ (v : View). v.marked q) (view_is names g)) ∙ h) names g k q is)
      (of_wide o.read texts.naming w m.formed w' (HasNoNew o (now o w'))
      (λ names g k. new_on (view_of o.read names (turn.before g)) (view_of o.read names g) (new_pair names g)
      (each_image o.read w (HasNoNew o (now o w)) m.no_new names (turn.before g) (turn.image names g k))))
      (λ names g rising complete covered leaves. sound_less o.act H (view_of o.read names g) e e' fewer (safe names g rising complete covered leaves).0)
      (λ names g rising complete covered leaves. (safe names g rising complete covered leaves).1)
      (λ x f. changes.others (mark_place x) (out.mark_out x))
      (λ x f. changes.others (note_place x) (out.note_out x))

module _
    (o : Outside) (texts : Texts o.read) (entry : World) (H : Versions) (j : OpenJob) (e e' : Eased) (top : ℕ) (steady : Bool) (w w' : World)
    (m : Images o entry H e top steady w) (fits : Fits o entry e top w j) (fewer : (p : Path) (r : Record) → e' p r → e p r)
    (formed : IsFormed w') (covered : HasNames w'.names (reads w))
    (guarded : EachImage o.read w (IsGuarded j)) (places : List Path) (own_places : (p : Path) → IsIn places p → IsIn (own j) p) (changes : ChangesWithin w w' places) where
  out : AreOutside places
  out = places_outside o texts places (λ p i. each_in (λ p. IsTrue (is_outside p)) (own j) p fits.paths (own_places p i))

  abbrev here : Turn w w'
  here = turn_within w w' formed covered (λ q. is_within q places) changes.others

  -- nothing that counts and isn't marked is at what changes
  kept_at : (names : List Path) (g : Nodes) → IsWide w w' names g → (q : Path) (r : Record) → (view_of o.read names (here.before g)).record_at q ≡ Some r → (view_of o.read names (here.before g)).marked q ≡ false → SameAt (view_of o.read names (here.before g)) (view_of o.read names g) q
  kept_at names g i q r at unmarked =
      by_test (list_any (overlaps q) (own j))
      (λ over. clash ((view_of o.read names (here.before g)).marked q)
      ((each_image o.read w (IsGuarded j) guarded names (here.before g) (here.image names g i)).marks q
      (each_image o.read w (HasNoClash o e j) fits.no_clash names (here.before g) (here.image names g i) q r (at, inl unmarked) over)) unmarked)
      (nodes_same o texts entry H j e e' top steady w w' m fewer formed covered places own_places changes out names g i q)

  safe : EachImage o.read w' (λ v. Sound o.act H v e × HasSources o (now o entry) v)
  safe =
      of_wide o.read texts.naming w m.formed w' (λ v. Sound o.act H v e × HasSources o (now o entry) v)
      (λ names g i. nodes_safe o entry H e w w' places changes out m.sound m.sources
      (λ names f rising complete covered leaves. guarded_covered texts.overlap j (view_of o.read names f) (guarded names f rising complete covered leaves) places own_places)
      names g i.image.rising i.image.complete i.before i.image.leaves (kept_at names g i))

  pub node_change : Change o entry H j e e' w w'
  node_change = node_change_by o texts entry H j e e' top steady w w' m fewer formed covered places own_places changes out safe
