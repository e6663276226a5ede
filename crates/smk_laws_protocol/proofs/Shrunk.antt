-- At and under an output what stands may be gone: each image is sound still, where no more stands now than the record lists.
use Rattle.smk_laws_protocol.proofs.Formed.{all_named}
use Rattle.std.proofs.Common.{◌≡◌, ◌⊎◌, ℕ, Bool, true, false, List, refl, sym, ap, subst, inl, inr, arith, ◌∙◌, Option, Some, None}
use Rattle.std.specs.Prelude.{bytes_eq, IsTrue, IsSome, is_some, is_none, if◌then◌else◌, ◌&&◌, ◌||◌, not, option_map}
use lib.Pointwise.{pointwise}
use Rattle.smk_world.specs.declared.event.Besides.{Besides as LeftBesides}
use Rattle.smk_world.specs.declared.event.Besides.TheVariants.{Anything, OneOf}
use Rattle.smk_world.specs.declared.recipe.Kind.{Kind}
use Rattle.smk_world.specs.declared.recipe.Kind.TheVariants.{Plain, Folder as FolderKind}
use Rattle.smk_record.specs.declared.record.Member.{Member}
use Rattle.smk_world.specs.declared.event.Node.{Node}
use Rattle.smk_world.specs.declared.event.NodeState.{NodeState}
use Rattle.smk_world.specs.declared.event.NodeState.TheVariants.{Owned, Known}
use Rattle.smk_record.specs.declared.record.Record.{Record}
use Rattle.smk_world.specs.Trees.{Path, among, IsIn, is_path_text}
use Rattle.smk_base.specs.Path.{overlaps, is_under, is_at_or_under}
use Rattle.smk_store.specs.Images.{is_outside, Content, is_directory}
use Rattle.smk_store.specs.Trust.{Versions, Eased}
use Rattle.smk_laws_protocol.proofs.View.{kind_in, View, Sound, Holds, is_source, source_at, is_known, is_covered, is_whole, file_of}
use Rattle.smk_record.specs.Records.{same_member, core}
use Rattle.smk_laws_protocol.proofs.Views.{Nodes, reads, view_of, view_by, path_node, read_at, place_node}
use Rattle.smk_world.specs.World.{World, MayLeave, IsBeside, reading, going, or_was, or_gone}
use Rattle.smk_base.specs.Place.{mark_place, record_place, note_place}
use Rattle.smk_store.specs.Soundness.{Outside}
use Rattle.smk_laws_protocol.proofs.Rows.{now}
use Rattle.smk_laws_protocol.proofs.Between.{Images, HasSources, HasNoNested, HasNoNew}
use Rattle.smk_laws_protocol.proofs.Basics.{by_test, clash, none_some}
use Rattle.smk_laws_protocol.proofs.Crux.{whole_on, file_tree}
use Rattle.smk_laws_protocol.proofs.Events.{same_source}
use Rattle.smk_laws_protocol.proofs.Holders.{by_option}
use Rattle.smk_laws_protocol.proofs.Members.{member, member_in, in_member, name_in}
use Rattle.smk_laws_protocol.proofs.Moves.{SameAt, with_nodes, sound_on, is_covered_by, HoldsBy}
use Rattle.smk_laws_protocol.proofs.Marking.{reads_stay}
use Rattle.smk_laws_protocol.proofs.Naming.{IsImage, IsWide, each_image, now_image}
use Rattle.smk_base.proofs.Places.{place_itself, same_place}
use Rattle.smk_laws_protocol.proofs.Texts.{Texts}

-- ---- what stands after a removal might have stood before

beside_gone : (n0 m : Option Node) (b : LeftBesides) → is_none m ≡ false → IsBeside (or_gone n0 b) m → IsBeside b m
beside_gone None m b some h = h
beside_gone (Some k) m Anything some h = tt
beside_gone (Some k) m (OneOf ns) some (inl h) = clash (is_none m) (ap (λ (x : Option Node). is_none x) h) some
beside_gone (Some k) m (OneOf ns) some (inr h) = h

beside_was : (was m : Option Node) (b : LeftBesides) → IsBeside (or_was was b) m → (m ≡ was) ⊎ IsBeside b m
beside_was None m b h = inr h
beside_was (Some k) m Anything h = inr tt
beside_was (Some k) m (OneOf ns) (inl h) = inl h
beside_was (Some k) m (OneOf ns) (inr h) = inr h

pub going_some : (s : NodeState) (n0 m : Option Node) → (n0 ≡ None) ⊎ (n0 ≡ reading s) → is_none m ≡ false → MayLeave (going n0 s) m → MayLeave s m
going_some Owned n0 m a some h = tt
going_some (Known was b) n0 m (inl a) some (inl h) = clash (is_none m) (ap (λ (x : Option Node). is_none x) (h ∙ a)) some
going_some (Known was b) n0 m (inr a) some (inl h) = inl (h ∙ a)
going_some (Known was b) n0 m a some (inr h) = turn (beside_was was m (or_gone n0 b) h)
  where
    turn : (m ≡ was) ⊎ IsBeside (or_gone n0 b) m → (m ≡ was) ⊎ IsBeside b m
    turn (inl k) = inl k
    turn (inr k) = inr (beside_gone n0 m b some k)

and_false : (a b : Bool) → a ≡ false → (a && b) ≡ false
and_false a b h = grind arith

no_path_file : (a b c : Bool) → b ≡ false → (a && b && not c) ≡ false
no_path_file a b c h = grind arith

first : (a b : Bool) → (a && b) ≡ true → a ≡ true
first a b h = grind arith

second : (a b : Bool) → (a && b) ≡ true → b ≡ true
second a b h = grind arith

none_is : (n : Option Node) → is_none n ≡ true → n ≡ None
none_is None h = refl
none_is (Some n) h = clash false h refl

-- A world in which, at and under p, only what might have stood before may stand, or nothing. An unmarked record of p reads, and no more
-- stands there now than it lists.
pub record Shrunk (o : Outside) (w w' : World) (p : Path) : Type 0 where
  pub others : (q : Path) → is_at_or_under q p ≡ false → w'.nodes q ≡ w.nodes q
  pub fewer : (q : Path) (n : Option Node) → is_at_or_under q p ≡ true → is_none n ≡ false → MayLeave (w'.nodes q) n → MayLeave (w.nodes q) n

module _
    (o : Outside) (texts : Texts o.read) (entry : World) (H : Versions) (e : Eased) (top : ℕ) (steady : Bool) (w w' : World) (m : Images o entry H e top steady w)
    (p : Path) (x : Record) (recorded : (now o w).record_at p ≡ Some x) (path : is_outside p ≡ true)
    (no_more : (k : Member) → IsIn ((now o w).members p) k → IsIn ((now o w).listed p) k) (shrunk : Shrunk o w w' p)
    (names : List Path) (g : Nodes) (i : IsWide w w' names g) where
  -- the image with what reads before where nothing stands any more
  abbrev f : Nodes
  f q = if is_at_or_under q p && is_none (g q) then reads w q else g q

  f_other : (q : Path) → is_at_or_under q p ≡ false → f q ≡ g q
  f_other q h = ap (λ (b : Bool). if b then reads w q else g q) (and_false (is_at_or_under q p) (is_none (g q)) h)

  f_some : (q : Path) → is_none (g q) ≡ false → f q ≡ g q
  f_some q h = go (is_at_or_under q p) (is_none (g q)) h
    where
      go : (a b : Bool) → b ≡ false → (if a && b then reads w q else g q) ≡ g q
      go true b h = ap (λ (c : Bool). if c then reads w q else g q) h
      go false b h = refl

  f_image : IsImage w names f
  f_image =
      record {
        rising = i.image.rising;
        complete = λ q. complete q (is_at_or_under q p && is_none (g q));
        covered = i.before;
        leaves = λ q. leaves q (is_at_or_under q p) (is_none (g q)) refl refl;
      }
    where
      complete : (q : Path) (b : Bool) → IsSome (if b then reads w q else g q) → IsTrue (among names q)
      complete q true h = i.before q h
      complete q false h = i.image.complete q h

      leaves : (q : Path) (a b : Bool) → is_at_or_under q p ≡ a → is_none (g q) ≡ b → MayLeave (w.nodes q) (if a && b then reads w q else g q)
      leaves q true true h k = reads_stay (w.nodes q)
      leaves q true false h k = shrunk.fewer q (g q) h k (i.image.leaves q)
      leaves q false b h k = subst (λ s. MayLeave s (g q)) (shrunk.others q h) (i.image.leaves q)

  abbrev v : View
  v = view_of o.read names g

  abbrev before : View
  before = view_of o.read names f

  abbrev u : View
  u = with_nodes before v.file v.is_folder v.members v.tree

  view_is : u ≡ v
  view_is k =
      view_by o.read names (path_node g)
      (λ q. if is_path_text q then f_other (record_place q) (texts.outside.record_out p q path) k else None)
      (λ q. if is_path_text q then f_other (mark_place q) (texts.outside.mark_out p q path) k else None)
      (λ q. if is_path_text q then f_other (note_place q) (texts.outside.note_out p q path) k else None)

  sound_before : Sound o.act H before e
  sound_before = each_image o.read w (λ v. Sound o.act H v e) m.sound names f f_image

  sources_before : HasSources o (now o entry) before
  sources_before = each_image o.read w (HasSources o (now o entry)) m.sources names f f_image

  sources_now : HasSources o (now o entry) (now o w)
  sources_now = each_image o.read w (HasSources o (now o entry)) m.sources w.names (reads w) (now_image w m.formed)

  -- ---- sources

  has_record : is_known (now o w) p ≡ true
  has_record = go (place_node (reads w) record_place p) recorded
    where
      known : (b c : Bool) → (true || b || c) ≡ true
      known b c = refl

      go : (n : Option Node) → option_map core (read_at o.read p n) ≡ Some x → (is_some n || (now o w).marked p || (now o w).noted p) ≡ true
      go None h = none_some None refl h
      go (Some n) h = known ((now o w).marked p) ((now o w).noted p)

  no_source_before : (q : Path) → is_at_or_under q p ≡ true → is_source before q ≡ false
  no_source_before q under =
      same_source before (now o w) (λ y. sources_before y ∙ sym (sources_now y)) q
      ∙ not_covered (is_path_text q) (is_some ((now o w).file q)) (is_covered (now o w) q) (is_covered_by (now o w) p q has_record (texts.overlap.covers p q ∙ under))
    where
      not_covered : (a b c : Bool) → c ≡ true → (a && b && not c) ≡ false
      not_covered a b c h = grind arith

  file_same : (q : Path) → f q ≡ g q → v.file q ≡ before.file q
  file_same q h = ap (λ n. file_of (if is_outside q then n else None)) (sym h)

  source_same : (q : Path) → is_source u q ≡ is_source before q
  source_same q = by_test (is_at_or_under q p) here (λ h k. is_path_text q && is_some (file_same q (f_other q h) k) && not (is_covered before q))
    where
      no_file : is_none (g q) ≡ true → v.file q ≡ None
      no_file h = go (is_outside q) (none_is (g q) h)
        where
          go : (b : Bool) → g q ≡ None → file_of (if b then g q else None) ≡ None
          go true h = ap file_of h
          go false h = refl

      here : is_at_or_under q p ≡ true → is_source u q ≡ is_source before q
      here under =
          by_test (is_none (g q))
          (λ h. no_path_file (is_path_text q) (is_some (v.file q)) (is_covered before q) (ap (λ (y : Option Content). is_some y) (no_file h)) ∙ sym (no_source_before q under))
          (λ h k. is_path_text q && is_some (file_same q (f_some q h) k) && not (is_covered before q))

  source_at_same : (q : Path) → source_at u q ≡ source_at before q
  source_at_same q =
      by_test (is_at_or_under q p)
      (λ under. none (is_source u q) (v.file q) (source_same q ∙ no_source_before q under) ∙ sym (none (is_source before q) (before.file q) (no_source_before q under)))
      (λ h k. if source_same q k then file_same q (f_other q h) k else None)
    where
      none : (b : Bool) (y : Option Content) → b ≡ false → (if b then y else None) ≡ None
      none b y h = rw h refl

  -- ---- what is whole

  agreeing : (q : Path) → ((y : Path) → is_at_or_under y q ≡ true → is_outside y ≡ true → g y ≡ f y) → SameAt before u q
  agreeing q agree =
      let s = texts.folders names names g f q i.image.rising i.image.rising i.image.complete f_image.complete agree in
      record { file = node (λ n. file_of n); folder = node (λ n. is_directory n); members = s.0; tree = s.1 }
    where
      at_self : is_at_or_under q q ≡ true
      at_self = rw (place_itself q) refl

      node : {B : Type 0} (F : Option Node → B) → F (path_node g q) ≡ F (path_node f q)
      node F = go (is_outside q) refl
        where
          go : (b : Bool) → is_outside q ≡ b → F (if b then g q else None) ≡ F (if b then f q else None)
          go true h = ap F (agree q at_self h)
          go false h = refl

  same_holds : (q : Path) (r : Record) → before.record_at q ≡ Some r → SameAt before u q → (IsTrue (is_whole before q (kind_in r q)) → Holds before o.act H q r) → IsTrue (is_whole u q (kind_in r q)) → HoldsBy u before o.act H q r
  same_holds q r at s holds whole =
      let k = holds (whole_on u before q (kind_in r q) (sym s.file) (sym s.folder) (sym s.members) refl whole) in
      (at, (k.0, s.tree ∙ k.1, k.2))

  far : (q : Path) (r : Record) → before.record_at q ≡ Some r → overlaps q p ≡ false → (IsTrue (is_whole before q (kind_in r q)) → Holds before o.act H q r) → IsTrue (is_whole u q (kind_in r q)) → HoldsBy u before o.act H q r
  far q r at apart =
      same_holds q r at (agreeing q (λ y under k. sym (f_other y (by_test (is_at_or_under y p) (λ t. clash (overlaps q p) (texts.overlap.down q y p under (texts.overlap.within p y t)) apart) (λ t. t)))))

  -- at the output itself
  near : (r : Record) → before.record_at p ≡ Some r → before.marked p ≡ false → (IsTrue (is_whole before p (kind_in r p)) → Holds before o.act H p r) → IsTrue (is_whole u p (kind_in r p)) → HoldsBy u before o.act H p r
  near r at unmarked holds whole = by_kind (kind_in r p) refl
    where
      listed : (now o w).listed p ≡ before.listed p
      listed = (each_image o.read w (HasNoNew o (now o w)) m.no_new names f f_image p r at unmarked).1

      by_file : (y : Option Content) → v.file p ≡ y → is_some y ≡ true → kind_in r p ≡ Plain → HoldsBy u before o.act H p r
      by_file None h s k = clash false s refl
      by_file (Some y) h s k =
          let stands = node_some (is_outside p) (g p) y h in
          let b = sym (file_same p (f_some p stands)) ∙ h in
          let t = holds (subst (λ k. IsTrue (is_whole before p k)) (sym k) (ap (λ (z : Option Content). is_some z) b)) in
          (at, (t.0, file_tree (path_node g p) y _ h ∙ sym (file_tree (path_node f p) y _ b) ∙ t.1, t.2))
        where
          node_some : (b : Bool) (n : Option Node) (y : Content) → file_of (if b then n else None) ≡ Some y → is_none n ≡ false
          node_some true None y h = none_some None refl h
          node_some false n y h = none_some None refl h
          node_some true (Some n) y h = refl

      folder_stands : (b : Bool) (n : Option Node) → is_directory (if b then n else None) ≡ true → is_none n ≡ false
      folder_stands true None h = clash false h refl
      folder_stands false n h = clash false h refl
      folder_stands true (Some n) h = refl

      -- all that stands now is in the image
      stays : v.is_folder p ≡ true → pointwise same_member (v.members p) (before.listed p) ≡ true → (y : Path) → is_at_or_under y p ≡ true → is_outside y ≡ true → g y ≡ f y
      stays folder listed_so y under is = by_option (reads w y) there (λ h. go (is_at_or_under y p) (is_none (g y)) refl h)
        where
          go : (a b : Bool) → is_none (g y) ≡ b → reads w y ≡ None → g y ≡ (if a && b then reads w y else g y)
          go true true k h = none_is (g y) k ∙ sym h
          go true false k h = refl
          go false b k h = refl

          gone : (n : Node) → reads w y ≡ Some n → is_none (g y) ≡ true → is_under y p ≡ true → g y ≡ f y
          gone n h none beneath =
              let mem = member_in o.read w.names (reads w) p y (all_named _ m.formed) beneath is (ap (λ (z : Option Node). is_some z) h) in
              let kept = subst (λ l. IsIn l (member (reads w) p y)) listed (no_more (member (reads w) p y) mem) in
              let found = name_in (v.members p) (before.listed p) (member (reads w) p y) listed_so kept in
              let q = in_member o.read names g p found.0 found.1 in
              let same = texts.parts_of.drop_same p q.0 y q.1 beneath (sym q.3 ∙ found.2) in
              clash (is_some (g y)) (subst (λ z. is_some (g z) ≡ true) same q.2) (none_not (g y) none)
            where
              none_not : (n : Option Node) → is_none n ≡ true → is_some n ≡ false
              none_not None h = refl
              none_not (Some n) h = clash false h refl

          split : (a b : Bool) → (a || b) ≡ true → a ≡ false → b ≡ true
          split a b h k = grind arith

          there : (n : Node) → reads w y ≡ Some n → g y ≡ f y
          there n h =
              by_test (is_none (g y))
              (λ none. by_test (bytes_eq y p)
              (λ e. clash (is_none (g p)) (subst (λ z. is_none (g z) ≡ true) (same_place y p e) none) (folder_stands (is_outside p) (g p) folder))
              (λ e. gone n h none (split (bytes_eq y p) (is_under y p) under e)))
              (λ s. sym (f_some y s))

      by_kind : (k : Kind) → kind_in r p ≡ k → HoldsBy u before o.act H p r
      by_kind Plain k = by_file (v.file p) refl (subst (λ z. IsTrue (is_whole u p z)) k whole) k
      by_kind FolderKind k =
          let a = subst (λ z. IsTrue (is_whole u p z)) k whole in
          same_holds p r at (agreeing p (stays (first (v.is_folder p) (pointwise same_member (v.members p) (before.listed p)) a) (second (v.is_folder p) (pointwise same_member (v.members p) (before.listed p)) a))) holds whole

  same_path : (q : Path) (r : Record) → before.record_at q ≡ Some r → before.marked q ≡ false → overlaps q p ≡ true → q ≡ p
  same_path q r at unmarked over =
      each_image o.read w (HasNoNested o) m.no_nested w.names (reads w) (now_image w m.formed) q p (some ((now o w).record_at q) r (each_image o.read w (HasNoNew o (now o w)) m.no_new names f f_image q r at unmarked).0) (some ((now o w).record_at p) x recorded) over
    where
      some : (y : Option Record) (r : Record) → y ≡ Some r → IsSome y
      some y r h = rw h refl

  sound_shrunk : Sound o.act H u e
  sound_shrunk =
      sound_on o.act H before u e e sound_before source_at_same
      (λ q h r s. record { no_source = sym (source_same q) ∙ s.no_source; holder = s.holder; clear = s.clear })
      (λ q r y s at clear k. sound_before.has_recorded q r y s at clear k)
      (λ q r at clear chain whole. each q r at clear (sound_before.holds q r at clear chain) whole)
    where
      each : (q : Path) (r : Record) → before.record_at q ≡ Some r → before.marked q ≡ false → (IsTrue (is_whole before q (kind_in r q)) → Holds before o.act H q r) → IsTrue (is_whole u q (kind_in r q)) → HoldsBy u before o.act H q r
      each q r at clear holds whole =
          by_test (overlaps q p)
          (λ over.
          let is = same_path q r at clear over in
          subst (λ y. before.record_at y ≡ Some r → before.marked y ≡ false → (IsTrue (is_whole before y (kind_in r y)) → Holds before o.act H y r) → IsTrue (is_whole u y (kind_in r y)) → HoldsBy u before o.act H y r) (sym is) (near r) at clear holds whole)
          (λ apart. far q r at apart holds whole)

  pub shrunk_safe : Sound o.act H v e × HasSources o (now o entry) v
  shrunk_safe = (subst (λ z. Sound o.act H z e) view_is sound_shrunk, subst (HasSources o (now o entry)) view_is (λ q. source_at_same q ∙ sources_before q))
