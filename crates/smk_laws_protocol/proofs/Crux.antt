-- The crux over a world: as a job's marks go, its outputs hold what their records vouch for, in every image.
use Rattle.smk_laws_protocol.proofs.Formed.{all_named}
use Rattle.std.proofs.Common.{◌≡◌, ◌⊎◌, ℕ, suc, Bool, true, false, List, [], ◌∷◌, map, zip, length, refl, sym, ap, subst, inl, inr, arith, ◌∙◌, Option, Some, None}
use Rattle.std.specs.Prelude.{IsTrue, IsSome, is_some, if◌then◌else◌, ◌&&◌, option_map}
use Rattle.std.specs.Option.{option_and_then}
use lib.Pointwise.{pointwise}
use Rattle.smk_world.specs.declared.event.Node.{Node}
use Rattle.smk_world.specs.declared.event.Node.TheVariants.{Regular, Directory}
use Rattle.smk_record.specs.declared.record.Record.{Record}
use Rattle.smk_base.specs.declared.tree.Tree.{Tree}
use Rattle.smk_base.specs.declared.tree.Tree.TheVariants.{File}
use Rattle.smk_world.specs.declared.recipe.Kind.{Kind}
use Rattle.smk_world.specs.declared.recipe.Kind.TheVariants.{Plain, Folder as FolderKind}
use Rattle.smk_record.specs.declared.record.Stamp.TheVariants.{Time, Sum, Made}
use Rattle.smk_world.specs.Trees.{Path, among, value_at, all_of, part_at, IsIn, Each, is_path_text}
use Rattle.smk_store.specs.Images.{is_outside, Content, is_directory}
use Rattle.smk_laws_protocol.specs.Protocol.{OpenJob, record_of, begun_with}
use Rattle.smk_world.specs.World.{in_paths, World, MayLeave, IsFormed, IsRising}
use Rattle.smk_store.specs.Trust.{Versions, Eased, none_eased}
use Rattle.smk_laws_protocol.proofs.View.{kind_in, View, Sound, source_at, is_source, Chain, Speaks, Holds, is_whole, input_value, vir, holder, file_of}
use Rattle.smk_record.specs.declared.record.Stamp.{Stamp}
use Rattle.smk_record.specs.Records.{same_member, is_of_source, source_time}
use Rattle.smk_laws_protocol.proofs.Views.{Nodes, HasNames, reads, Leaves, view_of, view_by, path_node}
use Rattle.smk_base.specs.Place.{mark_place, record_place, note_place}
use Rattle.smk_base.specs.Path.{is_at_or_under}
use Rattle.smk_store.specs.Soundness.{Outside}
use Rattle.smk_laws_protocol.proofs.Rows.{now, IsAtHand, IsSourceOf}
use Rattle.smk_laws_protocol.proofs.Between.{Images, Fits, HoldsGiven}
use Rattle.smk_laws_protocol.proofs.Moves.{with_nodes}
use Rattle.smk_laws_protocol.proofs.Places.{over, over_other}
use Rattle.smk_laws_protocol.proofs.Marking.{reads_stay, no_truth}
use Rattle.smk_laws_protocol.proofs.Own.{Falls, Mixed, own_value}
use Rattle.smk_laws_protocol.proofs.Events.{same_source}
use Rattle.smk_base.proofs.Places.{place_itself}
use Rattle.smk_laws_protocol.proofs.Basics.{each_in}
use Rattle.smk_store.proofs.Versions.{time_is}

-- none of the engine's places lies at or under a path
pub record Outside_paths : Type 0 where
  pub record_out : (h q : Path) → is_outside h ≡ true → is_at_or_under (record_place q) h ≡ false
  pub mark_out : (h q : Path) → is_outside h ≡ true → is_at_or_under (mark_place q) h ≡ false
  pub note_out : (h q : Path) → is_outside h ≡ true → is_at_or_under (note_place q) h ≡ false

-- images that agree at and under a path have the same members and tree there
abbrev pub FolderLaw : (List ℕ → Option Record) → Type 0
FolderLaw read =
    (names names' : List Path) (f g : Nodes) (h : Path) → IsRising names → IsRising names' → HasNames names f → HasNames names' g →
    ((q : Path) → is_at_or_under q h ≡ true → is_outside q ≡ true → f q ≡ g q) →
    ((view_of read names f).members h ≡ (view_of read names' g).members h) × ((view_of read names f).tree h ≡ (view_of read names' g).tree h)

firsts : {A B C : Type 0} (g : A → C) (xs : List A) (ys : List B) → length ys ≡ length xs → map (λ (x : A × B). g x.0) (zip xs ys) ≡ map g xs
firsts g [] ys h = refl
firsts g (x ∷ xs) [] h = absurd (no (length xs) h)
  where
    no : (n : ℕ) → 0 ≡ suc n → ⊥
    no n h = grind arith
firsts g (x ∷ xs) (y ∷ ys) h = ap (λ zs. g x ∷ zs) (firsts g xs ys (down (length ys) (length xs) h))
  where
    down : (a b : ℕ) → suc a ≡ suc b → a ≡ b
    down a b h = grind arith

pub file_tree : (n : Option Node) (f : Content) (t : Option Tree) → file_of n ≡ Some f → (if is_directory n then t else option_map (λ (x : Content). File x.bytes) (file_of n)) ≡ Some (File f.bytes)
file_tree None f t h = absurd (no h)
  where
    no : {A : Type 0} {x : A} → None ≡ Some x → ⊥
    no k = grind arith
file_tree (Some Directory) f t h = absurd (no h)
  where
    no : {A : Type 0} {x : A} → None ≡ Some x → ⊥
    no k = grind arith
file_tree (Some (Regular bytes time read_only)) f t h = ap (option_map (λ (x : Content). File x.bytes)) h

module _ (o : Outside) (out : Outside_paths) (folders_above : FolderLaw o.read) (w : World) (formed : IsFormed w)
    (names : List Path) (f : Nodes) (rising : IsRising names) (complete : HasNames names f) (covered : HasNames names (reads w)) (leaves : Leaves w f)
    (h : Path) (path : is_outside h ≡ true) where
  -- the image with what reads now at and under h
  abbrev mixed : Nodes
  mixed = over f h (reads w)

  mixed_leaves : Leaves w mixed
  mixed_leaves q = go (is_at_or_under q h) refl
    where
      go : (a : Bool) → is_at_or_under q h ≡ a → MayLeave (w.nodes q) (if a then reads w q else f q)
      go true e = reads_stay (w.nodes q)
      go false e = leaves q

  mixed_names : HasNames names mixed
  mixed_names q = go (is_at_or_under q h)
    where
      go : (a : Bool) → IsSome (if a then reads w q else f q) → IsTrue (among names q)
      go true k = covered q k
      go false k = complete q k

  abbrev mixed_view : View
  mixed_view =
      let v = view_of o.read names mixed in
      with_nodes (view_of o.read names f) v.file v.is_folder v.members v.tree

  pub mixed_is : view_of o.read names mixed ≡ mixed_view
  mixed_is i =
      view_by o.read names (path_node mixed)
      (λ q. if is_path_text q then over_other f (reads w) h (record_place q) (out.record_out h q path) i else None)
      (λ q. if is_path_text q then over_other f (reads w) h (mark_place q) (out.mark_out h q path) i else None)
      (λ q. if is_path_text q then over_other f (reads w) h (note_place q) (out.note_out h q path) i else None)

  agrees : (q : Path) → is_at_or_under q h ≡ true → mixed q ≡ reads w q
  agrees q e = rw e refl

  at_h : is_at_or_under h h ≡ true
  at_h = rw (place_itself h) refl

  pub mixed_node : path_node mixed h ≡ path_node (reads w) h
  mixed_node = ap (λ n. if is_outside h then n else None) (agrees h at_h)

  pub mixed_folder :
      ((view_of o.read names mixed).members h ≡ (now o w).members h) × ((view_of o.read names mixed).tree h ≡ (now o w).tree h)
  mixed_folder = folders_above names w.names mixed (reads w) h rising formed.rising mixed_names (all_named _ formed) (λ q u k. agrees q u)

-- the path of what is whole is a path
pub whole_path : (v : View) (h : Path) (n : Option Node) (k : Kind) → v.file h ≡ file_of (if is_outside h then n else None) → v.is_folder h ≡ is_directory (if is_outside h then n else None) → IsTrue (is_whole v h k) → is_outside h ≡ true
whole_path v h n Plain file folder whole = go (is_outside h) (subst (λ x. IsTrue (is_some x)) file whole)
  where
    go : (b : Bool) → IsTrue (is_some (file_of (if b then n else None))) → b ≡ true
    go true k = refl
    go false k = no_truth k
whole_path v h n FolderKind file folder whole = go (is_outside h) (left (v.is_folder h) (pointwise same_member (v.members h) (v.listed h)) whole folder)
  where
    left : {x : Bool} (a b : Bool) → (a && b) ≡ true → a ≡ x → x ≡ true
    left a b h k = grind arith

    go : (b : Bool) → is_directory (if b then n else None) ≡ true → b ≡ true
    go true k = refl
    go false k = no_truth k

pub whole_on : (v v' : View) (h : Path) (k : Kind) → v'.file h ≡ v.file h → v'.is_folder h ≡ v.is_folder h → v'.members h ≡ v.members h → v'.listed h ≡ v.listed h → IsTrue (is_whole v h k) → IsTrue (is_whole v' h k)
whole_on v v' h Plain file folder members listed whole = subst (λ x. IsTrue (is_some x)) (sym file) whole
whole_on v v' h FolderKind file folder members listed whole =
    subst (λ (b : Bool). IsTrue (b && pointwise same_member (v'.members h) (v'.listed h))) (sym folder)
    (subst (λ ms. IsTrue (v.is_folder h && pointwise same_member ms (v'.listed h))) (sym members)
    (subst (λ ms. IsTrue (v.is_folder h && pointwise same_member (v.members h) ms)) (sym listed) whole))

pub source_file : (v : View) (q : Path) (f : Content) → source_at v q ≡ Some f → v.file q ≡ Some f
source_file v q f h = go (is_source v q) (v.file q) h
  where
    go : (b : Bool) (x : Option Content) → (if b then x else None) ≡ Some f → x ≡ Some f
    go true x k = k
    go false x k = absurd (no k)
      where
        no : None ≡ Some f → ⊥
        no k = grind arith

module _
    (o : Outside) (out : Outside_paths) (folders_above : FolderLaw o.read) (entry : World) (H : Versions) (e : Eased) (top : ℕ) (steady : Bool) (w : World)
    (m : Images o entry H e top steady w) (j : OpenJob) (fits : Fits o entry e top w j)
    -- the part of a whole directory's tree at a file in it is the file
    (part_now : (q h : Path) (r : Record) → holder (now o w) q ≡ Some h → (now o w).record_at h ≡ Some r → IsTrue (is_whole (now o w) h (kind_in r h)) → (q ≡ h) ⊎ IsTrue (is_some ((now o w).file q)) → option_and_then (part_at h q) ((now o w).tree h) ≡ (now o w).tree q)
    -- no record of an input is one that a Restore keeps
    (not_eased : (q h : Path) (n : ℕ) (r : Record) → IsIn (begun_with j) (q, Made n) → holder (now o w) q ≡ Some h → e h r → ⊥)
    (names : List Path) (f : Nodes) (rising : IsRising names) (complete : HasNames names f) (covered : HasNames names (reads w)) (leaves : Leaves w f)
    (falls : (h : Path) (r : Record) → (view_of o.read names f).record_at h ≡ Some r → Falls r)
    -- no two records speak for one path, in this image and now
    (one_holder : (q h h0 : Path) (r r0 : Record) → Speaks (view_of o.read names f) e q h r → Speaks (now o w) none_eased q h0 r0 → h ≡ h0) where
  abbrev here : View
  here = view_of o.read names f

  now_sound : Sound o.act H (now o w) e
  now_sound = m.sound w.names (reads w) m.formed.rising (all_named _ m.formed) (all_named _ m.formed) (λ q. reads_stay (w.nodes q))

  source_tree : (q : Path) (s : Stamp) (t : ℕ) → source_time s ≡ Some t → IsSourceOf o (now o w) q s → option_map File (H q t) ≡ (now o w).tree q
  source_tree q s t time hand =
      ap (option_map File) (subst (λ u. H q u ≡ Some hand.0.bytes) (time_is hand.0 s t hand.2 time) (now_sound.has_sources q hand.0 hand.1))
      ∙ sym (file_tree (path_node (reads w) q) hand.0 _ (source_file (now o w) q hand.0 hand.1))

  source_value :
      (q : Path) (s : Stamp) (n : ℕ) → is_of_source s ≡ true → IsAtHand o (now o w) (q, s) → input_value here H (vir here o.act H n) (q, s) ≡ (now o w).tree q
  source_value q (Time t) n is hand = source_tree q (Time t) t refl hand
  source_value q (Sum t d) n is hand = source_tree q (Sum t d) t refl hand
  source_value q (Made m) n is hand = absurd (no_truth is)

  product :
      (q h : Path) (n : ℕ) (r : Record) → IsIn (begun_with j) (q, Made n) → Speaks here e q h r → r.made ≡ n →
      IsAtHand o (now o w) (q, Made n) → Mixed o.act H here e falls q h r ((now o w).tree q)
  product q h n r i speaks same hand =
      record {
        file = (view_of o.read names (mixed o out folders_above w m.formed names f rising complete covered leaves h path)).file;
        folder = (view_of o.read names (mixed o out folders_above w m.formed names f rising complete covered leaves h path)).is_folder;
        members = (view_of o.read names (mixed o out folders_above w m.formed names f rising complete covered leaves h path)).members;
        tree = (view_of o.read names (mixed o out folders_above w m.formed names f rising complete covered leaves h path)).tree;
        sound = subst (λ v. Sound o.act H v e) is sound_there;
        same_sources = λ x. same_source (mixed_view o out folders_above w m.formed names f rising complete covered leaves h path) here
            (λ y. subst (λ (v : View). source_at v y ≡ source_at (now o entry) y) is (sources_there y) ∙ sym (m.sources names f rising complete covered leaves y)) x;
        unmarked = unmarked speaks.clear.1;
        whole = whole_on (now o w) (mixed_view o out folders_above w m.formed names f rising complete covered leaves h path) h (kind_in r h)
            (ap file_of node) (ap is_directory node) (there.0) (sym news.1) whole;
        part = ap (option_and_then (part_at h q)) there.1 ∙ part_now q h r holder_now news.0 whole (subst (λ x. (q ≡ x) ⊎ IsTrue (is_some ((now o w).file q))) (sym at) hand.2.3);
      }
    where
      at : h ≡ hand.0
      at = one_holder q h hand.0 r hand.1 speaks hand.2.0

      holder_now : holder (now o w) q ≡ Some h
      holder_now = subst (λ x. holder (now o w) q ≡ Some x) (sym at) hand.2.0.holder

      unmarked : (here.marked h ≡ false) ⊎ (e h r) → here.marked h ≡ false
      unmarked (inl c) = c
      unmarked (inr c) = absurd (not_eased q h n r i holder_now c)

      some_same : {A : Type 0} {a b : A} → Some a ≡ Some b → a ≡ b
      some_same k = cc

      news : ((now o w).record_at h ≡ Some r) × ((now o w).listed h ≡ here.listed h)
      news = m.no_new names f rising complete covered leaves h r speaks.clear.0 (unmarked speaks.clear.1)

      record_now : hand.1 ≡ r
      record_now =
          some_same (sym hand.2.0.clear.0 ∙ subst (λ x. (now o w).record_at x ≡ Some r) at
          news.0)

      whole : IsTrue (is_whole (now o w) h (kind_in r h))
      whole =
          subst (λ x. IsTrue (is_whole (now o w) h (kind_in x h))) record_now
          (subst (λ x. IsTrue (is_whole (now o w) x (kind_in hand.1 x))) (sym at) hand.2.2)

      path : is_outside h ≡ true
      path = whole_path (now o w) h (reads w h) (kind_in r h) refl refl whole

      is : view_of o.read names (mixed o out folders_above w m.formed names f rising complete covered leaves h path) ≡ mixed_view o out folders_above w m.formed names f rising complete covered leaves h path
      is = mixed_is o out folders_above w m.formed names f rising complete covered leaves h path

      node : path_node (mixed o out folders_above w m.formed names f rising complete covered leaves h path) h ≡ path_node (reads w) h
      node = mixed_node o out folders_above w m.formed names f rising complete covered leaves h path

      there : ((view_of o.read names (mixed o out folders_above w m.formed names f rising complete covered leaves h path)).members h ≡ (now o w).members h) × ((view_of o.read names (mixed o out folders_above w m.formed names f rising complete covered leaves h path)).tree h ≡ (now o w).tree h)
      there = mixed_folder o out folders_above w m.formed names f rising complete covered leaves h path

      sound_there : Sound o.act H (view_of o.read names (mixed o out folders_above w m.formed names f rising complete covered leaves h path)) e
      sound_there = m.sound names (mixed o out folders_above w m.formed names f rising complete covered leaves h path) rising (mixed_names o out folders_above w m.formed names f rising complete covered leaves h path) covered (mixed_leaves o out folders_above w m.formed names f rising complete covered leaves h path)

      sources_there : (y : Path) → source_at (view_of o.read names (mixed o out folders_above w m.formed names f rising complete covered leaves h path)) y ≡ source_at (now o entry) y
      sources_there = m.sources names (mixed o out folders_above w m.formed names f rising complete covered leaves h path) rising (mixed_names o out folders_above w m.formed names f rising complete covered leaves h path) covered (mixed_leaves o out folders_above w m.formed names f rising complete covered leaves h path)

  -- An output of a job whose inputs are at hand, and which is what act gives on them, is what its record vouches for.
  pub own_holds :
      (p : Path) → here.record_at p ≡ Some (record_of j p) → Chain here e (record_of j p) →
      Each (IsAtHand o (now o w)) (begun_with j) → HoldsGiven o (now o w) j here p → Holds here o.act H p (record_of j p)
  own_holds p at chain hands given =
      own_value o.act H here e falls p (record_of j p) (λ q. (now o w).tree q) given.0 at chain
      (λ q s i is. source_value q s j.serial is (each_in (IsAtHand o (now o w)) (begun_with j) (q, s) hands i))
      (λ q n h r i speaks same. product q h n r i speaks same (each_in (IsAtHand o (now o w)) (begun_with j) (q, Made n) hands i))
      (ap (λ xs. value_at o.act j.recipe p (all_of xs)) (firsts (λ q. (now o w).tree q) (in_paths j.recipe) j.stamps fits.each_stamped) ∙ given.1)
      given.2
