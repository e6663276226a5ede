-- A view doesn't hang on the list of names; what it has of a folder hangs on the paths at and under it alone; a part of a tree is what
-- stands there.
use Rattle.smk_world.proofs.Names.{adds_rising}
use Rattle.smk_world.specs.World.{IsRising, add_names}
use Rattle.std.proofs.Common.{◌≡◌, ◌⊎◌, ℕ, Bool, true, false, List, [], ◌∷◌, map, length, drop, ◌+◌, refl, sym, ap, subst, inl, inr, arith, ◌∙◌, Option, Some, None}
use Rattle.std.specs.Prelude.{bytes_eq, IsSome, is_some, find, if◌then◌else◌, ◌&&◌, ◌||◌, option_map}
use Rattle.std.specs.Option.{option_and_then}
use Rattle.smk_record.specs.declared.record.Member.{Member}
use Rattle.smk_world.specs.declared.event.Node.{Node}
use Rattle.smk_world.specs.declared.event.Node.TheVariants.{Regular, Directory}
use Rattle.smk_record.specs.declared.record.Record.{Record}
use Rattle.smk_base.specs.declared.tree.Tree.TheVariants.{File, Folder}
use Rattle.smk_base.specs.declared.tree.TreeEntry.{TreeEntry}
use Rattle.smk_world.specs.Trees.{Path, among, file_in, part_at, IsIn}
use Rattle.smk_store.specs.Images.{is_outside, Content, is_directory, bytes_of}
use Rattle.smk_laws_protocol.proofs.View.{file_of}
use Rattle.smk_base.specs.Path.{is_under, is_at_or_under}
use Rattle.smk_laws_protocol.proofs.Views.{Nodes, HasNames, view_of, path_node, names_in}
use Rattle.smk_laws_protocol.proofs.Basics.{clash, in_among, in_filter, filter_in}
use Rattle.smk_laws_protocol.proofs.Chains.{map_same}
use Rattle.smk_laws_protocol.proofs.Crux.{FolderLaw, file_tree}
use Rattle.smk_laws_protocol.proofs.Naming.{NamesLaws}
use Rattle.smk_base.proofs.Places.{place_itself, same_place}
use Rattle.smk_laws_protocol.proofs.Sorted.{rising_same, filter_rises, among_filter, among_add}
use Rattle.smk_laws_protocol.proofs.Texts.{PartLaw, DropLaws}

and_right : (a b : Bool) → (a && b) ≡ true → b ≡ true
and_right a b h = grind arith

and_left : (a b : Bool) → (a && b) ≡ true → a ≡ true
and_left a b h = grind arith

-- a test that holds only of what is listed
listed : (a b : Bool) → (b ≡ true → a ≡ true) → (a && b) ≡ b
listed a true h = rw (h refl) refl
listed true false h = refl
listed false false h = refl

pub path_some : (f : Nodes) (q : Path) → is_some (path_node f q) ≡ true → IsSome (f q)
path_some f q h = go (is_outside q) h
  where
    go : (b : Bool) → is_some (if b then f q else None) ≡ true → IsSome (f q)
    go true h = h
    go false h = clash false h refl

-- the names under a folder, in two images that agree there
pub names_agree :
    (names names' : List Path) (f g : Nodes) (h : Path) → IsRising names → IsRising names' → HasNames names f → HasNames names' g →
    ((q : Path) → is_under q h ≡ true → is_some (path_node f q) ≡ is_some (path_node g q)) → names_in names (path_node f) h ≡ names_in names' (path_node g) h
names_agree names names' f g h rising rising' complete complete' agree =
    rising_same (names_in names (path_node f) h) (names_in names' (path_node g) h)
    (filter_rises (λ q. is_under q h && is_some (path_node f q)) names rising) (filter_rises (λ q. is_under q h && is_some (path_node g q)) names' rising')
    (λ q. among_filter (λ q. is_under q h && is_some (path_node f q)) names q
    ∙ listed (among names q) (is_under q h && is_some (path_node f q)) (λ k. complete q (path_some f q (and_right (is_under q h) (is_some (path_node f q)) k)))
    ∙ same (is_under q h) (is_some (path_node f q)) (is_some (path_node g q)) (agree q)
    ∙ sym (listed (among names' q) (is_under q h && is_some (path_node g q)) (λ k. complete' q (path_some g q (and_right (is_under q h) (is_some (path_node g q)) k))))
    ∙ sym (among_filter (λ q. is_under q h && is_some (path_node g q)) names' q))
  where
    same : (a b c : Bool) → (a ≡ true → b ≡ c) → (a && b) ≡ (a && c)
    same true b c h = h refl
    same false b c h = refl

pub naming_laws : (read : List ℕ → Option Record) → NamesLaws read
naming_laws read =
    record {
      same = λ names names' f rising rising' complete complete'.
          same names names' f (λ h. names_agree names names' f f h rising rising' complete complete' (λ q k. refl));
      both = λ ps qs. add_names ps qs;
      rising = λ ps qs h k. adds_rising ps qs k;
      left = λ ps qs q h. among_add ps qs q ∙ or_left (among ps q) (among qs q) h;
      right = λ ps qs q h. among_add ps qs q ∙ or_right (among ps q) (among qs q) h;
    }
  where
    or_left : (a b : Bool) → a ≡ true → (a || b) ≡ true
    or_left a b h = grind arith

    or_right : (a b : Bool) → b ≡ true → (a || b) ≡ true
    or_right a b h = grind arith

    same : (names names' : List Path) (f : Nodes) → ((h : Path) → names_in names (path_node f) h ≡ names_in names' (path_node f) h) → view_of read names f ≡ view_of read names' f
    same names names' f eq k =
        record (view_of read names f) {
          members = λ p. map (λ q. record { folder = is_directory (path_node f q); name = drop (length p + 1) q }) (eq p k);
          tree = λ p.
              if is_directory (path_node f p)
              then Some (Folder (map (λ q. record { name = drop (length p + 1) q; bytes = bytes_of (path_node f q) }) (eq p k)))
              else option_map (λ (x : Content). File x.bytes) (file_of (path_node f p));
        }

abbrev member : Path → Nodes → Path → Member
member h f q = record { folder = is_directory (path_node f q); name = drop (length h + 1) q }

abbrev entry : Path → Nodes → Path → TreeEntry
entry h f q = record { name = drop (length h + 1) q; bytes = bytes_of (path_node f q) }

at_or_under : (q h : Path) → is_under q h ≡ true → is_at_or_under q h ≡ true
at_or_under q h k = either (bytes_eq q h) (is_under q h) k
  where
    either : (a b : Bool) → b ≡ true → (a || b) ≡ true
    either a b h = grind arith

module _ (names names' : List Path) (f g : Nodes) (h : Path) (rising : IsRising names) (rising' : IsRising names') (complete : HasNames names f) (complete' : HasNames names' g)
    (agree : (q : Path) → is_at_or_under q h ≡ true → is_outside q ≡ true → f q ≡ g q) where
  node : (q : Path) → is_at_or_under q h ≡ true → path_node f q ≡ path_node g q
  node q k = go (is_outside q) refl
    where
      go : (b : Bool) → is_outside q ≡ b → (if b then f q else None) ≡ (if b then g q else None)
      go true e = agree q k e
      go false e = refl

  list : names_in names (path_node f) h ≡ names_in names' (path_node g) h
  list = names_agree names names' f g h rising rising' complete complete' (λ q k. ap (λ (n : Option Node). is_some n) (node q (at_or_under q h k)))

  under : (q : Path) → IsIn (names_in names (path_node f) h) q → is_at_or_under q h ≡ true
  under q i = at_or_under q h (and_left (is_under q h) (is_some (path_node f q)) (in_filter (λ q. is_under q h && is_some (path_node f q)) names q i).1)

  members_same : map (member h f) (names_in names (path_node f) h) ≡ map (member h g) (names_in names' (path_node g) h)
  members_same =
      map_same (member h f) (member h g) (names_in names (path_node f) h) (λ q i k. record { folder = is_directory (node q (under q i) k); name = drop (length h + 1) q })
      ∙ ap (map (member h g)) list

  entries_same : map (entry h f) (names_in names (path_node f) h) ≡ map (entry h g) (names_in names' (path_node g) h)
  entries_same =
      map_same (entry h f) (entry h g) (names_in names (path_node f) h) (λ q i k. record { name = drop (length h + 1) q; bytes = bytes_of (node q (under q i) k) })
      ∙ ap (map (entry h g)) list

  here : path_node f h ≡ path_node g h
  here = node h (rw (place_itself h) refl)

pub folder_law : (read : List ℕ → Option Record) → FolderLaw read
folder_law read names names' f g h rising rising' complete complete' agree = (
  members_same names names' f g h rising rising' complete complete' agree,
  λ k.
      if is_directory (here names names' f g h rising rising' complete complete' agree k)
      then Some (Folder (entries_same names names' f g h rising rising' complete complete' agree k))
      else option_map (λ (x : Content). File x.bytes) (file_of (here names names' f g h rising rising' complete complete' agree k)),
)

-- ---- a part of a tree

-- the entry of a path is the first one of its name
found : (h : Path) (f : Nodes) (q : Path) (qs : List Path) → ((x : Path) → IsIn qs x → drop (length h + 1) x ≡ drop (length h + 1) q → x ≡ q) → IsIn qs q →
    find (λ (e : TreeEntry). bytes_eq e.name (drop (length h + 1) q)) (map (entry h f) qs) ≡ Some (entry h f q)
found h f q [] one i = absurd i
found h f q (x ∷ qs) one i =
    step (bytes_eq (drop (length h + 1) x) (drop (length h + 1) q)) refl i (λ k. found h f q qs (λ y j. one y (inr j)) k)
  where
    step :
        (b : Bool) → bytes_eq (drop (length h + 1) x) (drop (length h + 1) q) ≡ b → (q ≡ x) ⊎ IsIn qs q →
        (IsIn qs q → find (λ (e : TreeEntry). bytes_eq e.name (drop (length h + 1) q)) (map (entry h f) qs) ≡ Some (entry h f q)) →
        (if b then Some (entry h f x) else find (λ (e : TreeEntry). bytes_eq e.name (drop (length h + 1) q)) (map (entry h f) qs)) ≡ Some (entry h f q)
    step true e i ih = ap (λ y. Some (entry h f y)) (one x (inl refl) (same_place (drop (length h + 1) x) (drop (length h + 1) q) e))
    step false e (inl k) ih = clash (bytes_eq (drop (length h + 1) x) (drop (length h + 1) q)) (subst (λ y. bytes_eq (drop (length h + 1) x) (drop (length h + 1) y) ≡ true) (sym k) (place_itself (drop (length h + 1) x))) e
    step false e (inr k) ih = ih k

some_is : (x : Option Content) → is_some x ≡ true → (y : Content) × (x ≡ Some y)
some_is None h = clash false h refl
some_is (Some y) h = (y, refl)

bytes_are : (n : Option Node) → bytes_of n ≡ option_map (λ (f : Content). f.bytes) (file_of n)
bytes_are None = refl
bytes_are (Some Directory) = refl
bytes_are (Some (Regular bytes time read_only)) = refl

pub part_law : DropLaws → (read : List ℕ → Option Record) → PartLaw read
part_law laws read names f h q rising complete folder under some =
    let y = some_is (file_of (path_node f q)) some in
    ap (option_and_then (part_at h q)) (whole (is_directory (path_node f h)) folder)
    ∙ ap (λ (b : Bool). if b then Some (Folder (map (entry h f) (names_in names (path_node f) h))) else file_in (Folder (map (entry h f) (names_in names (path_node f) h))) (drop (length h + 1) q)) (laws.not_self h q under)
    ∙ ap (option_and_then (λ (e : TreeEntry). option_map File e.bytes)) (found h f q (names_in names (path_node f) h) one here)
    ∙ ap (option_map File) (bytes_are (path_node f q))
    ∙ ap (λ (x : Option Content). option_map File (option_map (λ (f : Content). f.bytes) x)) y.1
    ∙ sym (file_tree (path_node f q) y.0 _ y.1)
  where
    whole : (b : Bool) → b ≡ true → (if b then Some (Folder (map (entry h f) (names_in names (path_node f) h))) else option_map (λ (x : Content). File x.bytes) (file_of (path_node f h))) ≡ Some (Folder (map (entry h f) (names_in names (path_node f) h)))
    whole b e = rw e refl

    node_stands : (n : Option Node) → is_some (file_of n) ≡ true → is_some n ≡ true
    node_stands None k = clash false k refl
    node_stands (Some n) k = refl

    both : (a b : Bool) → a ≡ true → b ≡ true → (a && b) ≡ true
    both a b h k = grind arith

    stands : is_some (path_node f q) ≡ true
    stands = node_stands (path_node f q) some

    here : IsIn (names_in names (path_node f) h) q
    here = filter_in (λ q. is_under q h && is_some (path_node f q)) names q (in_among names q (complete q (path_some f q stands))) (both (is_under q h) (is_some (path_node f q)) under stands)

    one : (x : Path) → IsIn (names_in names (path_node f) h) x → drop (length h + 1) x ≡ drop (length h + 1) q → x ≡ q
    one x i e = laws.drop_same h x q (and_left (is_under x h) (is_some (path_node f x)) (in_filter (λ q. is_under q h && is_some (path_node f q)) names x i).1) under e
