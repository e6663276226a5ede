-- Folders above a place are made: a path of an open job whose marks and notes are firm, or one of the engine's own places.
use Rattle.std.proofs.Common.{◌≡◌, ◌⊎◌, ℕ, Bool, true, false, List, refl, sym, ap, subst, inl, inr, arith, ◌∙◌, Option, Some, None}
use Rattle.std.specs.Prelude.{IsTrue, IsSome, if◌then◌else◌, ◌&&◌}
use Rattle.std.specs.List.{list_any}
use Rattle.smk_record.specs.declared.record.Record.{Record}
use Rattle.smk_world.specs.declared.event.Node.{Node}
use Rattle.smk_world.specs.declared.event.Node.TheVariants.{Regular, Directory}
use Rattle.smk_world.specs.declared.event.Besides.TheVariants.{Anything, OneOf}
use Rattle.smk_world.specs.declared.event.NodeState.{NodeState}
use Rattle.smk_world.specs.declared.event.NodeState.TheVariants.{Owned, Known}
use Rattle.smk_world.specs.Trees.{Path, among, IsIn, is_path_text}
use Rattle.smk_base.specs.Path.{overlaps, is_under, is_at_or_under}
use Rattle.smk_store.specs.Images.{is_outside, is_directory}
use Rattle.smk_store.specs.Trust.{Versions, Eased, none_eased}
use Rattle.smk_laws_protocol.proofs.View.{View, Sound, file_of}
use Rattle.smk_laws_protocol.proofs.Views.{Nodes, EachImage, HasNames, reads, view_of, view_by, path_node}
use Rattle.smk_world.specs.World.{World, IsFormed, MayLeave, reading, reads_nothing, with_folder}
use Rattle.smk_base.specs.Place.{mark_place, record_place, note_place}
use Rattle.smk_store.specs.Soundness.{Outside}
use Rattle.smk_laws_protocol.specs.Protocol.{OpenJob, own}
use Rattle.smk_laws_protocol.proofs.Rows.{now}
use Rattle.smk_laws_protocol.proofs.Between.{Fits, Images, HasNoNew, HasNoClash, HasSources}
use Rattle.smk_laws_protocol.proofs.Basics.{none_of, by_test, clash}
use Rattle.smk_laws_protocol.proofs.Change.{Change, Counts}
use Rattle.smk_laws_protocol.proofs.Guarded.{IsGuarded}
use Rattle.smk_laws_protocol.proofs.Law.{sound_less}
use Rattle.smk_laws_protocol.proofs.Moves.{SameAt, with_nodes, node_sound, node_source_at}
use Rattle.smk_laws_protocol.proofs.Naming.{IsWide, each_image, of_wide}
use Rattle.smk_base.proofs.Places.{place_itself}
use Rattle.smk_laws_protocol.proofs.Texts.{Texts, IsFree}
use Rattle.smk_laws_protocol.proofs.Turns.{Turn, Pair, known_by, each_pair_change, of_pair, fewer_counts, same_change}

-- some of the folders_above above a place where nothing read are made
pub record MakesFolders (w w' : World) (p : Path) : Type 0 where
  pub others : (q : Path) → is_under p q ≡ false → w'.nodes q ≡ w.nodes q
  pub above : (q : Path) → is_under p q ≡ true → (w'.nodes q ≡ w.nodes q) ⊎ (w'.nodes q ≡ with_folder (w.nodes q))

-- a folder that stands where nothing read before
abbrev pub is_new : NodeState → Path → Path → Option Node → Bool
is_new s p q n = is_under p q && is_directory n && reads_nothing s

none_stays : (s : NodeState) → reads_nothing s ≡ true → MayLeave s None
none_stays Owned h = tt
none_stays (Known None besides) h = inl refl
none_stays (Known (Some n) besides) h = clash false h refl

none_reads : (s : NodeState) → reads_nothing s ≡ true → None ≡ reading s
none_reads Owned h = refl
none_reads (Known None besides) h = refl
none_reads (Known (Some n) besides) h = clash false h refl

-- what isn't a new folder might have been left before
left_before : (s : NodeState) (n : Option Node) → (is_directory n && reads_nothing s) ≡ false → MayLeave (with_folder s) n → MayLeave s n
left_before Owned n old h = tt
left_before (Known (Some m) besides) n old h = h
left_before (Known None Anything) n old h = inr tt
left_before (Known None (OneOf ns)) n old (inl h) = clash (is_directory n && true) (subst (λ m. (is_directory m && true) ≡ true) (sym h) refl) old
left_before (Known None (OneOf ns)) n old (inr (inl h)) = inl h
left_before (Known None (OneOf ns)) n old (inr (inr h)) = inr h

with_folder_reads : (s : NodeState) → (is_directory (reading (with_folder s)) && reads_nothing s) ≡ false → reading (with_folder s) ≡ reading s
with_folder_reads Owned h = refl
with_folder_reads (Known (Some m) besides) h = refl
with_folder_reads (Known None besides) h = clash true refl h

and_second : (a b c : Bool) → (a && b && c) ≡ true → b ≡ true
and_second a b c h = grind arith

and_third : (a b c : Bool) → (a && b && c) ≡ true → c ≡ true
and_third a b c h = grind arith

and_rest : (a b c : Bool) → a ≡ true → (a && b && c) ≡ false → (b && c) ≡ false
and_rest a b c h k = grind arith

and_false : (a b c : Bool) → a ≡ false → (a && b && c) ≡ false
and_false a b c h = grind arith

module _ (w w' : World) (formed : IsFormed w') (covered : HasNames w'.names (reads w)) (p : Path) (makes : MakesFolders w w' p) where
  abbrev pub before : Nodes → Nodes
  before g q = if is_new (w.nodes q) p q (g q) then None else g q

  pub complete : (names : List Path) (g : Nodes) → HasNames names g → HasNames names (before g)
  complete names g h q = go (is_new (w.nodes q) p q (g q))
    where
      go : (b : Bool) → IsSome (if b then None else g q) → IsTrue (among names q)
      go true k = clash false k refl
      go false k = h q k

  pub leaves : (g : Nodes) (q : Path) → MayLeave (w'.nodes q) (g q) → MayLeave (w.nodes q) (before g q)
  leaves g q h = go (is_new (w.nodes q) p q (g q)) refl
    where
      old : is_new (w.nodes q) p q (g q) ≡ false → is_under p q ≡ true → (w'.nodes q ≡ w.nodes q) ⊎ (w'.nodes q ≡ with_folder (w.nodes q)) → MayLeave (w.nodes q) (g q)
      old e under (inl k) = subst (λ s. MayLeave s (g q)) k h
      old e under (inr k) = left_before (w.nodes q) (g q) (and_rest (is_under p q) (is_directory (g q)) (reads_nothing (w.nodes q)) under e) (subst (λ s. MayLeave s (g q)) k h)

      go : (b : Bool) → is_new (w.nodes q) p q (g q) ≡ b → MayLeave (w.nodes q) (if b then None else g q)
      go true e = none_stays (w.nodes q) (and_third (is_under p q) (is_directory (g q)) (reads_nothing (w.nodes q)) e)
      go false e = by_test (is_under p q) (λ u. old e u (makes.above q u)) (λ u. subst (λ s. MayLeave s (g q)) (makes.others q u) h)

  pub back : (q : Path) → before (reads w') q ≡ reads w q
  back q = go (is_new (w.nodes q) p q (reads w' q)) refl
    where
      old : is_new (w.nodes q) p q (reads w' q) ≡ false → is_under p q ≡ true → (w'.nodes q ≡ w.nodes q) ⊎ (w'.nodes q ≡ with_folder (w.nodes q)) → reads w' q ≡ reads w q
      old e under (inl k) = ap reading k
      old e under (inr k) =
          ap reading k
          ∙ with_folder_reads (w.nodes q)
          (subst (λ (s : NodeState). (is_directory (reading s) && reads_nothing (w.nodes q)) ≡ false) k (and_rest (is_under p q) (is_directory (reads w' q)) (reads_nothing (w.nodes q)) under e))

      go : (b : Bool) → is_new (w.nodes q) p q (reads w' q) ≡ b → (if b then None else reads w' q) ≡ reads w q
      go true e = none_reads (w.nodes q) (and_third (is_under p q) (is_directory (reads w' q)) (reads_nothing (w.nodes q)) e)
      go false e = by_test (is_under p q) (λ u. old e u (makes.above q u)) (λ u. ap reading (makes.others q u))

  abbrev pub folder_turn : Turn w w'
  folder_turn =
      record {
        formed = formed;
        covered = covered;
        before = before;
        image = λ names g i. record { rising = i.image.rising; complete = complete names g i.image.complete; covered = i.before; leaves = λ q. leaves g q (i.image.leaves q) };
        back = back;
      }

  -- elsewhere nothing changes
  pub before_other : (g : Nodes) (q : Path) → is_under p q ≡ false → before g q ≡ g q
  before_other g q u = ap (λ (b : Bool). if b then None else g q) (and_false (is_under p q) (is_directory (g q)) (reads_nothing (w.nodes q)) u)

  -- no file does anywhere
  pub before_file : (g : Nodes) (q : Path) → file_of (path_node g q) ≡ file_of (path_node (before g) q)
  before_file g q = go (is_outside q) (is_new (w.nodes q) p q (g q)) refl
    where
      no_file : (n : Option Node) → is_directory n ≡ true → file_of n ≡ None
      no_file None h = refl
      no_file (Some Directory) h = refl
      no_file (Some (Regular bytes time read_only)) h = clash false h refl

      go : (a b : Bool) → is_new (w.nodes q) p q (g q) ≡ b → file_of (if a then g q else None) ≡ file_of (if a then (if b then None else g q) else None)
      go false b e = refl
      go true false e = refl
      go true true e = no_file (g q) (and_second (is_under p q) (is_directory (g q)) (reads_nothing (w.nodes q)) e)

-- folders_above above one of the engine's places, or above the lock
pub own_folders_change :
    (o : Outside) (texts : Texts o.read) (entry : World) (H : Versions) (j : OpenJob) (e e' : Eased) (top : ℕ) (steady : Bool) (w w' : World) →
    Images o entry H e top steady w → ((p : Path) (r : Record) → e' p r → e p r) → IsFormed w' → HasNames w'.names (reads w) →
    (p : Path) → IsFree p → ((q : Path) → is_outside q ≡ true → is_under p q ≡ false) → MakesFolders w w' p → Change o entry H j e e' w w'
own_folders_change o texts entry H j e e' top steady w w' m fewer formed covered p free no_path makes =
    same_change o texts.naming entry H j e e' top steady w w' (folder_turn w w' formed covered p makes) m fewer
    (λ names g i k. view_by o.read names (λ q. at_path g q k)
    (λ q. if is_path_text q then before_other w w' formed covered p makes g (record_place q) (free.above_record q) k else None)
    (λ q. if is_path_text q then before_other w w' formed covered p makes g (mark_place q) (free.above_mark q) k else None)
    (λ q. if is_path_text q then before_other w w' formed covered p makes g (note_place q) (free.above_note q) k else None))
    (λ x n k. makes.others (mark_place x) (free.above_mark x) ∙ k) (λ x n k. makes.others (note_place x) (free.above_note x) ∙ k)
  where
    at_path : (g : Nodes) (q : Path) → path_node (before w w' formed covered p makes g) q ≡ path_node g q
    at_path g q = go (is_outside q) refl
      where
        go : (b : Bool) → is_outside q ≡ b → (if b then before w w' formed covered p makes g q else None) ≡ (if b then g q else None)
        go true h = before_other w w' formed covered p makes g q (no_path q h)
        go false h = refl

module _
    (o : Outside) (texts : Texts o.read) (entry : World) (H : Versions) (j : OpenJob) (e e' : Eased) (top : ℕ) (steady : Bool) (w w' : World)
    (m : Images o entry H e top steady w) (fits : Fits o entry e top w j) (fewer : (p : Path) (r : Record) → e' p r → e p r)
    (formed : IsFormed w') (covered : HasNames w'.names (reads w))
    (guarded : EachImage o.read w (IsGuarded j)) (p : Path) (i : IsIn (own j) p) (free : IsFree p) (makes : MakesFolders w w' p) where
  abbrev turn : Turn w w'
  turn = folder_turn w w' formed covered p makes

  abbrev after_view : List Path → Nodes → View
  after_view names g =
      let x = view_of o.read names g in
      with_nodes (view_of o.read names (turn.before g)) x.file x.is_folder x.members x.tree

  view_is : (names : List Path) (g : Nodes) → after_view names g ≡ view_of o.read names g
  view_is names g k =
      view_by o.read names (path_node g)
      (λ q. if is_path_text q then before_other w w' formed covered p makes g (record_place q) (free.above_record q) k else None)
      (λ q. if is_path_text q then before_other w w' formed covered p makes g (mark_place q) (free.above_mark q) k else None)
      (λ q. if is_path_text q then before_other w w' formed covered p makes g (note_place q) (free.above_note q) k else None)

  agrees : (g : Nodes) (x : Path) → list_any (overlaps x) (own j) ≡ false → (q : Path) → is_at_or_under q x ≡ true → g q ≡ turn.before g q
  agrees g x clear q under =
      sym (before_other w w' formed covered p makes g q
      (by_test (is_under p q) (λ u. clash (overlaps x p) (texts.overlap.down x q p under (texts.overlap.above q p u)) (none_of (overlaps x) (own j) p clear i)) (λ u. u)))

  at_self : (x : Path) → is_at_or_under x x ≡ true
  at_self x = rw (place_itself x) refl

  nodes_same : (names : List Path) (g : Nodes) → IsWide w w' names g → (x : Path) → list_any (overlaps x) (own j) ≡ false → SameAt (view_of o.read names (turn.before g)) (view_of o.read names g) x
  nodes_same names g k x clear =
      let f = texts.folders names names g (turn.before g) x k.image.rising k.image.rising k.image.complete (turn.image names g k).complete (λ q u i. agrees g x clear q u) in
      record {
        file = λ n. file_of (if is_outside x then agrees g x clear x (at_self x) n else None);
        folder = λ n. is_directory (if is_outside x then agrees g x clear x (at_self x) n else None);
        members = f.0;
        tree = f.1;
      }

  pub pair : (names : List Path) (g : Nodes) → IsWide w w' names g → Pair H j e e' (view_of o.read names (turn.before g)) (view_of o.read names g)
  pair names g k =
      record {
        differs = record {
          nodes = nodes_same names g k;
          records = λ x f. record {
            has = sym (ap (λ (v : View). v.has_record x) (view_is names g));
            at = sym (ap (λ (v : View). v.record_at x) (view_is names g));
            listed = sym (ap (λ (v : View). v.listed x) (view_is names g));
          };
          marks = λ x f. sym (ap (λ (v : View). v.marked x) (view_is names g));
        };
        counts = subst (λ v. Counts H j (view_of o.read names (turn.before g)) e v e') (view_is names g) (fewer_counts H j (view_of o.read names (turn.before g)) e e' fewer);
        none_counts = subst (λ v. Counts H j (view_of o.read names (turn.before g)) none_eased v none_eased) (view_is names g) (fewer_counts H j (view_of o.read names (turn.before g)) none_eased none_eased (λ p r h. h));
      }

  abbrev SameNew : View → View → Type 0
  SameNew v v' = ((q : Path) → v'.record_at q ≡ v.record_at q) × ((q : Path) → v'.listed q ≡ v.listed q) × ((q : Path) → v'.marked q ≡ v.marked q)

  new_pair : (names : List Path) (g : Nodes) → SameNew (view_of o.read names (turn.before g)) (view_of o.read names g)
  new_pair names g =
      (λ q. sym (ap (λ (v : View). v.record_at q) (view_is names g)), λ q. sym (ap (λ (v : View). v.listed q) (view_is names g)), λ q. sym (ap (λ (v : View). v.marked q) (view_is names g)))

  same_new : SameNew (now o w) (now o w')
  same_new = of_pair o texts.naming w w' m.formed turn SameNew (λ names g k. new_pair names g)

  new_on : (v v' : View) → SameNew v v' → HasNoNew o (now o w) v → HasNoNew o (now o w') v'
  new_on v v' same h q r at unmarked =
      let k = h q r (sym (same.0 q) ∙ at) (sym (same.2 q) ∙ unmarked) in
      (same_new.0 q ∙ k.0, same_new.1 q ∙ k.1 ∙ sym (same.1 q))

  kept_at : (names : List Path) (g : Nodes) → IsWide w w' names g → (q : Path) (r : Record) → (view_of o.read names (turn.before g)).record_at q ≡ Some r → (view_of o.read names (turn.before g)).marked q ≡ false → SameAt (view_of o.read names (turn.before g)) (after_view names g) q
  kept_at names g k q r at unmarked =
      by_test (list_any (overlaps q) (own j))
      (λ over. clash ((view_of o.read names (turn.before g)).marked q)
      ((each_image o.read w (IsGuarded j) guarded names (turn.before g) (turn.image names g k)).marks q
      (each_image o.read w (HasNoClash o e j) fits.no_clash names (turn.before g) (turn.image names g k) q r (at, inl unmarked) over)) unmarked)
      (λ clear. let s = nodes_same names g k q clear in record { file = s.file; folder = s.folder; members = s.members; tree = s.tree })

  safe : EachImage o.read w' (λ v. Sound o.act H v e × HasSources o (now o entry) v)
  safe =
      of_wide o.read texts.naming w m.formed w' (λ v. Sound o.act H v e × HasSources o (now o entry) v)
      (λ names g k.
      let x = view_of o.read names g in
      let v = view_of o.read names (turn.before g) in (
        subst (λ u. Sound o.act H u e) (view_is names g)
            (node_sound v (λ q. false) e x.file x.is_folder x.members x.tree (λ q h. clash false h refl) (λ q h. before_file w w' formed covered p makes g q) (kept_at names g k) o.act H
            (each_image o.read w (λ u. Sound o.act H u e) m.sound names (turn.before g) (turn.image names g k))),
        subst (HasSources o (now o entry)) (view_is names g)
            (λ q. node_source_at v (λ q. false) e x.file x.is_folder x.members x.tree (λ q h. clash false h refl) (λ q h. before_file w w' formed covered p makes g q) (kept_at names g k) q
            ∙ each_image o.read w (HasSources o (now o entry)) m.sources names (turn.before g) (turn.image names g k) q),
      ))

  pub folder_change : Change o entry H j e e' w w'
  folder_change =
      each_pair_change o texts.naming entry H j e e' w w' m.formed turn pair
      (λ names g k q i is. known_by o texts.naming entry H e top steady w w' turn m (λ names g k q. sym (ap (λ (v : View). v.has_record q) (view_is names g))) (λ names g k q h. sym (ap (λ (v : View). v.marked q) (view_is names g)) ∙ h) names g k q is)
      (of_wide o.read texts.naming w m.formed w' (HasNoNew o (now o w'))
      (λ names g k. new_on (view_of o.read names (turn.before g)) (view_of o.read names g) (new_pair names g)
      (each_image o.read w (HasNoNew o (now o w)) m.no_new names (turn.before g) (turn.image names g k))))
      (λ names g rising complete covered leaves. sound_less o.act H (view_of o.read names g) e e' fewer (safe names g rising complete covered leaves).0)
      (λ names g rising complete covered leaves. (safe names g rising complete covered leaves).1)
      (λ x f. makes.others (mark_place x) (free.above_mark x))
      (λ x f. makes.others (note_place x) (free.above_note x))
