-- Where a tree stands in a world, its view has the tree, and the other way round.
use Rattle.std.proofs.Common.{◌≡◌, ◌⊎◌, ℕ, Bool, true, false, List, [], ◌∷◌, ◌++◌, map, length, drop, ◌+◌, refl, sym, ap, subst, inl, inr, arith, ◌∙◌, Option, Some, None, Contains}
use Rattle.std.specs.Prelude.{IsTrue, is_some, option_map, if◌then◌else◌, ◌&&◌, not}
use Rattle.std.specs.List.{AllZip, AllByRecursion}
use Rattle.std.specs.List.Sorted.{IsStrictlySortedBy}
use Rattle.std.specs.Cmp.Lexicographic.{slice_cmp}
use Rattle.std.specs.Ordering.{nat_cmp, ordering_then}
use Rattle.std.specs.declared.cmp.Ordering.{Ordering}
use Rattle.std.specs.declared.cmp.Ordering.TheVariants.{Less}
use Rattle.std.proofs.lemmas.Cmp.{tied_itself, nat_cmp_total}
use Rattle.std.proofs.lemmas.List.Elements.{Contains-push, Contains-append_left, Contains-append_right, Contains-append_cases, Contains-push_cases, recursion_from_All, All-from_recursion}
use Rattle.smk_base.specs.Path.{is_under, is_at_or_under, own_folder}
use Rattle.smk_base.specs.declared.tree.Tree.{Tree}
use Rattle.smk_base.specs.declared.tree.Tree.TheVariants.{File, Folder}
use Rattle.smk_base.specs.declared.tree.TreeEntry.{TreeEntry}
use Rattle.smk_base.proofs.Under.{rest_under, under_folder, at_when_under, at_itself, both_true}
use Rattle.smk_base.proofs.Places.{and_first, and_second}
use Rattle.smk_base.proofs.Apart as apart
use Rattle.smk_world.specs.declared.event.Node.{Node}
use Rattle.smk_world.specs.declared.event.Node.TheVariants.{Regular, Directory}
use Rattle.smk_world.specs.declared.event.NodeState.{NodeState}
use Rattle.smk_world.specs.declared.event.NodeState.TheVariants.{Owned, Known}
use Rattle.smk_world.specs.World.{World, IsFormed, IsRising, reading}
use Rattle.smk_world.specs.Calls.{Reads, HoldsBytes, EntryIs, IsFolderOf, TreeAt, MaybeTreeAt, in_folder}
use Rattle.smk_world.specs.Trees.{Path, among, below, IsIn, Each}
use Rattle.smk_store.specs.Images.{Content, is_outside, is_directory, bytes_of}
use Rattle.smk_store.specs.Soundness.{Outside}
use Rattle.smk_laws_protocol.proofs.View.{file_of}
use Rattle.smk_laws_protocol.proofs.Views.{reads, path_node, names_in}
use Rattle.smk_laws_protocol.proofs.Rows.{now}
use Rattle.smk_laws_protocol.proofs.Between.{trees_at}
use Rattle.smk_laws_protocol.proofs.Basics.{by_test, clash, none_some, in_among, in_filter, filter_in}
use Rattle.smk_laws_protocol.proofs.Calls.{in_map}
use Rattle.smk_laws_protocol.proofs.Chains.{map_same}
use Rattle.smk_laws_protocol.proofs.Formed.{all_named}
use Rattle.smk_laws_protocol.proofs.Sorted.{rising_same, filter_rises}
use Rattle.smk_laws_protocol.proofs.TextFacts.{drop_rest, outside_own}
use Rattle.smk_laws_protocol.proofs.TextFolders.{among_by}
use Rattle.smk_laws_protocol.proofs.ViewLaws.{path_some}

-- ---- lists

pub contains_of : {A : Type 0} (xs : List A) (x : A) → IsIn xs x → Contains xs x
contains_of [] x h = absurd h
contains_of (y ∷ xs) x (inl e) = Contains-append_left (y ∷ []) xs x (subst (λ z. Contains (z ∷ []) x) e (Contains-push [] x))
contains_of (y ∷ xs) x (inr h) = Contains-append_right (y ∷ []) xs x (contains_of xs x h)

pub in_of : {A : Type 0} (xs : List A) (x : A) → Contains xs x → IsIn xs x
in_of [] x h = absurd (let k = h.1 in omega arith)
in_of {A} (y ∷ xs) x h = go (Contains-append_cases (y ∷ []) xs x h) (in_of xs x)
  where
    head : Contains [] x ⊎ (y ≡ x) → IsIn (y ∷ xs) x
    head (inl k) = absurd (let l = k.1 in omega arith)
    head (inr e) = inl (sym e)

    go : Contains (y ∷ []) x ⊎ Contains xs x → (Contains xs x → IsIn xs x) → IsIn (y ∷ xs) x
    go (inl k) ih = head (Contains-push_cases [] y x k)
    go (inr k) ih = inr (ih k)

pub in_mapped : {A B : Type 0} (f : A → B) (xs : List A) (x : A) → IsIn xs x → IsIn (map f xs) (f x)
in_mapped f [] x h = h
in_mapped f (y ∷ xs) x (inl e) = inl (ap f e)
in_mapped f (y ∷ xs) x (inr h) = inr (in_mapped f xs x h)

map_twice : {A B C : Type 0} (f : A → B) (g : B → C) (xs : List A) → map g (map f xs) ≡ map (λ x. g (f x)) xs
map_twice f g [] = refl
map_twice f g (x ∷ xs) = ap (λ ys. g (f x) ∷ ys) (map_twice f g xs)

same_test : (a b : Bool) → (a ≡ true → b ≡ true) → (b ≡ true → a ≡ true) → a ≡ b
same_test true b h k = sym (h refl)
same_test false true h k = k refl
same_test false false h k = refl

by_recursion : {A : Type 0} (P : A → Type 0) (xs : List A) → ((x : A) → IsIn xs x → P x) → AllByRecursion P xs
by_recursion P [] h = tt
by_recursion P (x ∷ xs) h = (h x (inl refl), by_recursion P xs (λ y i. h y (inr i)))

of_recursion : {A : Type 0} (P : A → Type 0) (xs : List A) (x : A) → AllByRecursion P xs → IsIn xs x → P x
of_recursion P [] x h i = absurd i
of_recursion P (y ∷ xs) x h (inl e) = subst P (sym e) h.0
of_recursion P (y ∷ xs) x h (inr i) = of_recursion P xs x h.1 i

-- ---- names under a folder

-- what lies under a folder is in it
split : (p q : Path) → is_under q p ≡ true → q ≡ in_folder p (below p q)
split p q h =
    let a = rest_under q p h in
    a.1 ∙ ap (λ r. p ++ 47 ∷ r) (sym (ap (drop (length p + 1)) a.1 ∙ drop_rest p a.0))

cmp_same : (a : ℕ) (r : Ordering) → ordering_then (nat_cmp a a) r ≡ r
cmp_same a r = ap (λ x. ordering_then x r) (tied_itself nat_cmp_total a)

cmp_after : (p a b : Path) → slice_cmp nat_cmp (p ++ a) (p ++ b) ≡ slice_cmp nat_cmp a b
cmp_after [] a b = refl
cmp_after (x ∷ p) a b = cmp_same x (slice_cmp nat_cmp (p ++ a) (p ++ b)) ∙ cmp_after p a b

below_cmp : (p q x : Path) → is_under q p ≡ true → is_under x p ≡ true → slice_cmp nat_cmp q x ≡ slice_cmp nat_cmp (below p q) (below p x)
below_cmp p q x h k =
    (λ i. slice_cmp nat_cmp (split p q h i) (split p x k i)) ∙ cmp_after p (47 ∷ below p q) (47 ∷ below p x)
    ∙ cmp_same 47 (slice_cmp nat_cmp (below p q) (below p x))

below_above :
    (p q : Path) (qs : List Path) → is_under q p ≡ true → ((x : Path) → IsIn qs x → is_under x p ≡ true) →
    AllByRecursion (λ y. slice_cmp nat_cmp q y ≡ Less) qs → AllByRecursion (λ y. slice_cmp nat_cmp (below p q) y ≡ Less) (map (below p) qs)
below_above p q [] h under all = tt
below_above p q (x ∷ qs) h under all = (sym (below_cmp p q x h (under x (inl refl))) ∙ all.0, below_above p q qs h (λ y i. under y (inr i)) all.1)

below_rises : (p : Path) (qs : List Path) → ((x : Path) → IsIn qs x → is_under x p ≡ true) → IsRising qs → IsRising (map (below p) qs)
unfolding IsStrictlySortedBy
below_rises p [] under h = tt
below_rises p (q ∷ qs) under h = (below_above p q qs (under q (inl refl)) (λ x i. under x (inr i)) h.0, below_rises p qs (λ x i. under x (inr i)) h.1)

-- what lies under a path of the user's is one too
under_outside : (p q : Path) → is_outside p ≡ true → is_under q p ≡ true → is_outside q ≡ true
under_outside p q out under =
    by_test (is_outside q) (λ h. h)
    (λ h. clash (is_at_or_under q p) (at_when_under q p under) (apart.outside-own p q (outside_own p out) (not_false (is_at_or_under q own_folder) h)).at_or_over)
  where
    not_false : (b : Bool) → not b ≡ false → b ≡ true
    not_false b h = grind arith

-- ---- what one place has

regular_same : (b c : List ℕ) (t u : ℕ) (r s : Bool) → Some (Regular b t r) ≡ Some (Regular c u s) → b ≡ c
regular_same b c t u r s h = cc

folder_regular : {A : Type 0} (b : List ℕ) (t : ℕ) (r : Bool) → Some Directory ≡ Some (Regular b t r) → A
folder_regular b t r h = absurd (no h)
  where
    no : Some Directory ≡ Some (Regular b t r) → ⊥
    no h = cc

holds : (s : NodeState) (bytes : List ℕ) (t : ℕ) (r : Bool) → reading s ≡ Some (Regular bytes t r) → HoldsBytes bytes s
holds Owned bytes t r h = none_some None refl h
holds (Known None b) bytes t r h = none_some None refl h
holds (Known (Some Directory) b) bytes t r h = folder_regular bytes t r h
holds (Known (Some (Regular held u q)) b) bytes t r h = regular_same held bytes u t q r h

is_read : (s : NodeState) (n : Node) → reading s ≡ Some n → Reads (Some n) s
is_read Owned n h = none_some None refl h
is_read (Known m b) n h = h

read_file : (s : NodeState) (bytes : List ℕ) → HoldsBytes bytes s → (t : ℕ) × (r : Bool) × (reading s ≡ Some (Regular bytes t r))
read_file Owned bytes h = absurd h
read_file (Known None b) bytes h = absurd h
read_file (Known (Some Directory) b) bytes h = absurd h
read_file (Known (Some (Regular held t r)) b) bytes h = (t, r, ap (λ x. Some (Regular x t r)) h)

read_as : (s : NodeState) (n : Option Node) → Reads n s → reading s ≡ n
read_as Owned n h = absurd h
read_as (Known m b) n h = h

stands : (s : NodeState) → (s ≡ Owned → ⊥) → (Reads None s → ⊥) → is_some (reading s) ≡ true
stands Owned free some = absurd (free refl)
stands (Known None b) free some = absurd (some refl)
stands (Known (Some n) b) free some = refl

not_none : (s : NodeState) → is_some (reading s) ≡ true → Reads None s → ⊥
not_none s h none = no (reading s) (read_as s None none) h
  where
    no : (n : Option Node) → n ≡ None → is_some n ≡ true → ⊥
    no None e k = clash false k refl
    no (Some x) e k = none_some (Some x) e refl

entry_is : (s : NodeState) (n : Option Node) → n ≡ reading s → is_some n ≡ true → EntryIs (bytes_of n) s
entry_is s None e h = clash false h refl
entry_is s (Some Directory) e h = is_read s Directory (sym e)
entry_is s (Some (Regular bytes t r)) e h = holds s bytes t r (sym e)

entry_reads : (b : Option (List ℕ)) (s : NodeState) → EntryIs b s → (b ≡ bytes_of (reading s)) × (is_some (reading s) ≡ true)
entry_reads None s h = (sym (ap bytes_of (read_as s (Some Directory) h)), ap (λ (n : Option Node). is_some n) (read_as s (Some Directory) h))
entry_reads (Some bytes) s h = let k = read_file s bytes h in (sym (ap bytes_of k.2), ap (λ (n : Option Node). is_some n) k.2)

-- the tree of a node with these entries
abbrev tree_of : List TreeEntry → Option Node → Option Tree
tree_of es n = if is_directory n then Some (Folder es) else option_map (λ (x : Content). File x.bytes) (file_of n)

file_same : (b c : List ℕ) → Some (File b) ≡ Some (File c) → b ≡ c
file_same b c h = cc

folder_same : (es fs : List TreeEntry) → Some (Folder es) ≡ Some (Folder fs) → es ≡ fs
folder_same es fs h = cc

file_folder : {A : Type 0} (es : List TreeEntry) (b : List ℕ) → Some (Folder es) ≡ Some (File b) → A
file_folder es b h = absurd (no h)
  where
    no : Some (Folder es) ≡ Some (File b) → ⊥
    no h = cc

is_file : (n : Option Node) (es : List TreeEntry) (bytes : List ℕ) → tree_of es n ≡ Some (File bytes) → (t : ℕ) × (r : Bool) × (n ≡ Some (Regular bytes t r))
is_file None es bytes h = none_some None refl h
is_file (Some Directory) es bytes h = file_folder es bytes h
is_file (Some (Regular b t r)) es bytes h = (t, r, ap (λ x. Some (Regular x t r)) (file_same b bytes h))

is_folder : (n : Option Node) (es fs : List TreeEntry) → tree_of es n ≡ Some (Folder fs) → (n ≡ Some Directory) × (es ≡ fs)
is_folder None es fs h = none_some None refl h
is_folder (Some Directory) es fs h = (refl, folder_same es fs h)
is_folder (Some (Regular b t r)) es fs h = file_folder fs b (sym h)

module _ (o : Outside) (w : World) (formed : IsFormed w) (p : Path) where
  abbrev node : Path → Option Node
  node = path_node (reads w)

  abbrev names : List Path
  names = names_in w.names node p

  abbrev entry : Path → TreeEntry
  entry q = record { name = drop (length p + 1) q; bytes = bytes_of (node q) }

  -- what stands there is what the entry says
  abbrev IsThere : TreeEntry → Type 0
  IsThere e = EntryIs e.bytes (w.nodes (in_folder p e.name))

  abbrev by_name : List ℕ → TreeEntry
  by_name name = record { name = name; bytes = bytes_of (node (in_folder p name)) }

  listed : (q : Path) → IsIn names q → (is_under q p ≡ true) × (is_some (node q) ≡ true)
  listed q i =
      let k = (in_filter (λ q. is_under q p && is_some (node q)) w.names q i).1 in
      (and_first (is_under q p) (is_some (node q)) k, and_second (is_under q p) (is_some (node q)) k)

  is_listed : (q : Path) → is_under q p ≡ true → is_some (node q) ≡ true → IsIn names q
  is_listed q under some =
      filter_in (λ q. is_under q p && is_some (node q)) w.names q (in_among w.names q (all_named w formed q (path_some (reads w) q some)))
      (both_true (is_under q p) (is_some (node q)) under some)

  some_node : (n : Node) → node p ≡ Some n → (is_outside p ≡ true) × (reading (w.nodes p) ≡ Some n)
  some_node n h = by_test (is_outside p) (λ k. (k, sym (ap (λ (b : Bool). if b then reads w p else None) k) ∙ h)) (λ k. none_some (node p) (ap (λ (b : Bool). if b then reads w p else None) k) h)

  module _ (out : is_outside p ≡ true) where
    here : node p ≡ reading (w.nodes p)
    here = ap (λ (b : Bool). if b then reads w p else None) out

    below_here : (q : Path) → is_under q p ≡ true → node q ≡ reading (w.nodes q)
    below_here q under = ap (λ (b : Bool). if b then reads w q else None) (under_outside p q out under)

    some_below : (q : Path) → IsIn names q → is_some (reading (w.nodes q)) ≡ true
    some_below q i = let k = listed q i in sym (ap (λ (n : Option Node). is_some n) (below_here q k.0)) ∙ k.1

    named : (name : List ℕ) → is_some (reading (w.nodes (in_folder p name))) ≡ true → IsIn (map (below p) names) name
    named name some =
        let under = under_folder p name in
        subst (λ x. IsIn (map (below p) names) x) (drop_rest p name)
        (in_mapped (below p) names (in_folder p name) (is_listed (in_folder p name) under (ap (λ (n : Option Node). is_some n) (below_here (in_folder p name) under) ∙ some)))

    rises : IsRising (map (below p) names)
    rises = below_rises p names (λ q i. (listed q i).0) (filter_rises (λ q. is_under q p && is_some (node q)) w.names formed.rising)

    folder_at : ((q : Path) → is_at_or_under q p ≡ true → w.nodes q ≡ Owned → ⊥) → reading (w.nodes p) ≡ Some Directory → IsFolderOf w p (map entry names)
    folder_at free is =
        record {
          folder = is_read (w.nodes p) Directory is;
          sorted = subst IsRising (sym (map_twice entry (λ (e : TreeEntry). e.name) names)) rises;
          stand = All-from_recursion IsThere (map entry names) (by_recursion IsThere (map entry names) (λ e i. each e (in_map entry names e i)));
          all = λ name some.
              subst (λ xs. Contains xs name) (sym (map_twice entry (λ (e : TreeEntry). e.name) names))
              (contains_of (map (below p) names) name (named name (stands (w.nodes (in_folder p name)) (free (in_folder p name) (at_when_under (in_folder p name) p (under_folder p name))) some)));
        }
      where
        each : (e : TreeEntry) → ((q : Path) × IsIn names q × (e ≡ entry q)) → IsThere e
        each e k =
            let l = listed k.0 k.1 in
            subst (λ (x : TreeEntry). EntryIs x.bytes (w.nodes (in_folder p x.name))) (sym k.2)
            (subst (λ x. EntryIs (bytes_of (node k.0)) (w.nodes x)) (split p k.0 l.0) (entry_is (w.nodes k.0) (node k.0) (below_here k.0 l.0) l.1))

    -- a folder's entries are those of its view
    entries_are : (es : List TreeEntry) → IsFolderOf w p es → map entry names ≡ es
    entries_are es folder =
        map_same entry (λ q. by_name (below p q)) names (λ q i k. record { name = below p q; bytes = bytes_of (node (split p q (listed q i).0 k)) })
        ∙ sym (map_twice (below p) by_name names) ∙ ap (map by_name) same_names ∙ back es (λ e i. of_recursion IsThere es e stood i)
      where
        stood : AllByRecursion IsThere es
        stood = recursion_from_All IsThere es folder.stand

        same_names : map (below p) names ≡ map (λ (e : TreeEntry). e.name) es
        same_names =
            rising_same (map (below p) names) (map (λ (e : TreeEntry). e.name) es) rises folder.sorted (λ r. same_test (among (map (below p) names) r) (among (map (λ (e : TreeEntry). e.name) es) r)
            (λ h. there r (in_map (below p) names r (in_among (map (below p) names) r h)))
            (λ h. back_again r (in_map (λ (e : TreeEntry). e.name) es r (in_among (map (λ (e : TreeEntry). e.name) es) r h))))
          where
            there : (r : List ℕ) → ((q : Path) × IsIn names q × (r ≡ below p q)) → among (map (λ (e : TreeEntry). e.name) es) r ≡ true
            there r k =
                among_by (map (λ (e : TreeEntry). e.name) es) r
                (in_of (map (λ (e : TreeEntry). e.name) es) r
                (subst (λ x. Contains (map (λ (e : TreeEntry). e.name) es) x) (sym k.2)
                (folder.all (below p k.0) (subst (λ x. Reads None (w.nodes x) → ⊥) (split p k.0 (listed k.0 k.1).0) (not_none (w.nodes k.0) (some_below k.0 k.1))))))

            back_again : (r : List ℕ) → ((e : TreeEntry) × IsIn es e × (r ≡ e.name)) → among (map (below p) names) r ≡ true
            back_again r k =
                among_by (map (below p) names) r
                (subst (λ x. IsIn (map (below p) names) x) (sym k.2) (named k.0.name (entry_reads k.0.bytes (w.nodes (in_folder p k.0.name)) (of_recursion IsThere es k.0 stood k.1)).1))

        back : (xs : List TreeEntry) → ((e : TreeEntry) → IsIn xs e → IsThere e) → map by_name (map (λ (e : TreeEntry). e.name) xs) ≡ xs
        back [] h = refl
        back (e ∷ xs) h = λ k. record { name = e.name; bytes = bytes_same k } ∷ back xs (λ x i. h x (inr i)) k
          where
            bytes_same : bytes_of (node (in_folder p e.name)) ≡ e.bytes
            bytes_same = ap bytes_of (below_here (in_folder p e.name) (under_folder p e.name)) ∙ sym (entry_reads e.bytes (w.nodes (in_folder p e.name)) (h e (inl refl))).0

  -- what the view has stands, where nothing is owned
  pub tree_to : ((q : Path) → is_at_or_under q p ≡ true → w.nodes q ≡ Owned → ⊥) → (t : Tree) → (now o w).tree p ≡ Some t → TreeAt w p t
  tree_to free (File bytes) h =
      let k = is_file (node p) (map entry names) bytes h in
      holds (w.nodes p) bytes k.0 k.1 (some_node (Regular bytes k.0 k.1) k.2).1
  tree_to free (Folder es) h =
      let k = is_folder (node p) (map entry names) es h in
      let r = some_node Directory k.0 in
      subst (λ x. IsFolderOf w p x) k.1 (folder_at r.0 free r.1)

  -- what stands the view has
  pub tree_from : is_outside p ≡ true → (t : Option Tree) → MaybeTreeAt w p t → (now o w).tree p ≡ t
  tree_from out None h = ap (tree_of (map entry names)) (here out ∙ read_as (w.nodes p) None (h p (at_itself p)))
  tree_from out (Some (File bytes)) h = let k = read_file (w.nodes p) bytes h in ap (tree_of (map entry names)) (here out ∙ k.2)
  tree_from out (Some (Folder es)) h =
      ap (tree_of (map entry names)) (here out ∙ read_as (w.nodes p) (Some Directory) h.folder) ∙ ap (λ x. Some (Folder x)) (entries_are out es h)

module _ (o : Outside) (w : World) (formed : IsFormed w) where
  pub contents_are :
      (ps : List Path) (trees : List Tree) → ((p : Path) → IsIn ps p → (q : Path) → is_at_or_under q p ≡ true → w.nodes q ≡ Owned → ⊥) →
      trees_at (now o w) ps ≡ map Some trees → AllZip (λ p tree. TreeAt w p tree) ps trees
  contents_are [] [] free h = tt
  contents_are [] (t ∷ trees) free h = absurd (no h)
    where
      no : {A : Type 0} {x : A} {xs : List A} → [] ≡ x ∷ xs → ⊥
      no h = cc
  contents_are (p ∷ ps) [] free h = absurd (no h)
    where
      no : {A : Type 0} {x : A} {xs : List A} → x ∷ xs ≡ [] → ⊥
      no h = cc
  contents_are (p ∷ ps) (t ∷ trees) free h = (tree_to o w formed p (free p (inl refl)) t (head h), contents_are ps trees (λ q i. free q (inr i)) (tail h))
    where
      head : {A : Type 0} {x y : A} {xs ys : List A} → x ∷ xs ≡ y ∷ ys → x ≡ y
      head h = cc

      tail : {A : Type 0} {x y : A} {xs ys : List A} → x ∷ xs ≡ y ∷ ys → xs ≡ ys
      tail h = cc

  pub outputs_are : (ps : List Path) (trees : List (Option Tree)) → Each (λ p. IsTrue (is_outside p)) ps → AllZip (λ p tree. MaybeTreeAt w p tree) ps trees → trees ≡ trees_at (now o w) ps
  outputs_are [] [] out h = refl
  outputs_are [] (t ∷ trees) out h = absurd h
  outputs_are (p ∷ ps) [] out h = absurd h
  outputs_are (p ∷ ps) (t ∷ trees) out h = λ k. sym (tree_from o w formed p out.0 t h.0) k ∷ outputs_are ps trees out.1 h.1 k
