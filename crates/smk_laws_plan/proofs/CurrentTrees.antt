-- Trees, and the parts of what a command gives.
use Rattle.std.proofs.Common.{◌≡◌, ◌⊎◌, ◌+◌, suc, Bool, true, false, not, cond, ◌&&◌, ◌||◌, List, [], ◌∷◌, ◌++◌, map, filter, find, drop, length, refl, sym, ap, subst, inl, inr, ◌∙◌, arith, Option, Some, None, option_map, option_and_then, is_some, true≢false, eqb, eqb-true}
use Rattle.std.specs.Prelude.{bytes_eq, ◌==◌}
use lib.Pointwise.{pointwise}
use Rattle.smk_base.specs.declared.tree.Tree.{Tree}
use Rattle.smk_base.specs.declared.tree.Tree.TheVariants.{File, Folder}
use Rattle.smk_base.specs.declared.tree.TreeEntry.{TreeEntry}
use Rattle.smk_base.specs.Path.{is_under}
use Rattle.smk_base.proofs.Places.{same_place, place_itself}
use Rattle.smk_base.proofs.Under.{never_under_itself}
use Rattle.smk_world.specs.declared.event.Node.{Node}
use Rattle.smk_world.specs.declared.event.Node.TheVariants.{Regular, Directory}
use Rattle.smk_world.specs.declared.recipe.Out.{Out}
use Rattle.smk_world.specs.declared.recipe.Recipe.{Recipe}
use Rattle.smk_world.specs.World.{out_paths}
use Rattle.smk_world.specs.Trees.{Path, Act, are_good, below, file_among, file_in, outs_of, part_at, tree_among, value_at}
use Rattle.smk_record.specs.declared.record.Member.{Member}
use Rattle.smk_record.specs.Records.{same_member, same_flag}
use Rattle.smk_store.specs.Images.{Image, Content, file_at, bytes_of, is_directory, is_folder, entry_under, members_under, names_under}
use Rattle.smk_laws_plan.proofs.CurrentLists.{In, some_inj, none_some, clash_of, and_left, and_right, or_cases, or_first, or_second}
use Rattle.smk_laws_plan.proofs.CurrentPaths.{Touch, touch_overlaps, Above, above_touch}
use Rattle.smk_laws_plan.proofs.CurrentApart.{Apart}
use Rattle.smk_laws_plan.proofs.CurrentChosen.{paths_are}
use Rattle.smk_laws_plan.proofs.CurrentSame.{pointwise_same}

-- ## The parts of what a command gives

at_or_above : (p q : Path) → (bytes_eq p q || is_under q p) ≡ true → Above q p
at_or_above p q h = go (or_cases (bytes_eq p q) (is_under q p) h)
  where
    go : (bytes_eq p q ≡ true) ⊎ (is_under q p ≡ true) → Above q p
    go (inl e) = inl (sym (same_place p q e))
    go (inr u) = inr u

above_at : (p q : Path) → Above q p → (bytes_eq p q || is_under q p) ≡ true
above_at p q (inl e) = or_first (bytes_eq p q) (is_under q p) (subst (λ w. bytes_eq p w ≡ true) (sym e) (place_itself p))
above_at p q (inr u) = or_second (bytes_eq p q) (is_under q p) u

-- the tree of the output itself
own_part :
    (p q : Path) (o : Option Tree) (t x : Tree) (a b : Option Tree) → Above q p →
    cond (bytes_eq p p || is_under p p) (option_and_then (part_at p p) o) a ≡ Some t → part_at p q t ≡ Some x →
    cond (bytes_eq p q || is_under q p) (option_and_then (part_at p q) o) b ≡ Some x
own_part p q None t x a b u e f = absurd (none_some None t refl (sym (ap (λ c. cond (c || is_under p p) None a) (place_itself p)) ∙ e))
own_part p q (Some s) t x a b u e f =
    let same : s ≡ t = some_inj s t (sym (ap (λ c. cond (c || is_under p p) (cond c (Some s) (file_in s (below p p))) a) (place_itself p)) ∙ e) in
    ap (λ c. cond c (part_at p q s) b) (above_at p q u) ∙ ap (part_at p q) same ∙ f

pub tree_part :
    (outs : List Out) (trees : List (Option Tree)) (h q : Path) (t x : Tree) →
    Apart (map (λ (o : Out). o.path) outs) → In h (map (λ (o : Out). o.path) outs) → Above q h →
    tree_among outs trees h ≡ Some t → part_at h q t ≡ Some x → tree_among outs trees q ≡ Some x
tree_part [] trees h q t x a i u e f = absurd i
tree_part (o ∷ outs) [] h q t x a i u e f = absurd (none_some None t refl e)
tree_part (o ∷ outs) (t0 ∷ trees) h q t x a (inl s) u e f =
    own_part o.path q t0 t x (tree_among outs trees o.path) (tree_among outs trees q) (subst (Above q) s u)
    (subst (λ w. tree_among (o ∷ outs) (t0 ∷ trees) w ≡ Some t) s e)
    (subst (λ w. part_at w q t ≡ Some x) s f)
tree_part (o ∷ outs) (t0 ∷ trees) h q t x a (inr i) u e f =
    go (bytes_eq o.path h || is_under h o.path) refl (bytes_eq o.path q || is_under q o.path) refl e (λ k. tree_part outs trees h q t x a.1 i u k f)
  where
    apart : Touch h o.path → ⊥
    apart k = clash_of _ (touch_overlaps h o.path k) (a.0 h i)

    turn : Above h o.path → Touch h o.path
    turn (inl s) = inl s
    turn (inr v) = inr (inl v)

    go :
        (b : Bool) → (bytes_eq o.path h || is_under h o.path) ≡ b → (d : Bool) → (bytes_eq o.path q || is_under q o.path) ≡ d →
        cond b (option_and_then (part_at o.path h) t0) (tree_among outs trees h) ≡ Some t → (tree_among outs trees h ≡ Some t → tree_among outs trees q ≡ Some x) →
        cond d (option_and_then (part_at o.path q) t0) (tree_among outs trees q) ≡ Some x
    go true bh d dh k ih = absurd (apart (turn (at_or_above o.path h bh)))
    go false bh true dh k ih = absurd (apart (above_touch q h o.path u (at_or_above o.path q dh)))
    go false bh false dh k ih = ih k

pub value_part :
    (act : Act) (r : Recipe) (h q : Path) → Apart (out_paths r) → In h (out_paths r) → Above q h →
    (v : Option (List Tree)) (t x : Tree) → value_at act r h v ≡ Some t → part_at h q t ≡ Some x → value_at act r q v ≡ Some x
value_part act r h q a i ab None t x e p = absurd (none_some None t refl e)
value_part act r h q a i ab (Some vs) t x e p =
    go ((act r vs).status == 0 && are_good (outs_of r) (act r vs).outputs) e
  where
    go : (b : Bool) → cond b (tree_among (outs_of r) (act r vs).outputs h) None ≡ Some t → cond b (tree_among (outs_of r) (act r vs).outputs q) None ≡ Some x
    go true k = tree_part (outs_of r) (act r vs).outputs h q t x (subst Apart (paths_are r) a) (subst (In h) (paths_are r) i) ab k p
    go false k = absurd (none_some None t refl k)

-- ## Folders as trees

below_under : (a h : Path) → is_under a h ≡ true → a ≡ h ++ 47 ∷ below h a
below_under [] h u = absurd (true≢false (sym u))
below_under (b ∷ a) [] u = ap (λ x. x ∷ a) (eqb-true b 47 u)
below_under (b ∷ a) (c ∷ h) u =
    let longer : suc (length h + 1) ≡ suc (length h) + 1 = omega arith in
    let more : a ≡ h ++ 47 ∷ drop (suc (length h) + 1) (b ∷ a) = below_under a h (and_right (eqb b c) (is_under a h) u) ∙ ap (λ k. h ++ 47 ∷ drop k (b ∷ a)) longer in
    λ i. eqb-true b c (and_left (eqb b c) (is_under a h) u) i ∷ more i

below_inj : (h a b : Path) → is_under a h ≡ true → is_under b h ≡ true → below h a ≡ below h b → a ≡ b
below_inj h a b u v e = below_under a h u ∙ ap (λ w. h ++ 47 ∷ w) e ∙ sym (below_under b h v)

module _ (image : Image) (h : Path) where
  abbrev pub entries : List Path → List TreeEntry
  entries names = map (entry_under image h) (filter (λ p. is_under p h) names)

  abbrev pub named : Path → TreeEntry → Bool
  named q e = bytes_eq e.name (below h q)

  pub entry_found : (names : List Path) (q : Path) → In q names → is_under q h ≡ true → find (named q) (entries names) ≡ Some (entry_under image h q)
  entry_found [] q i u = absurd i
  entry_found (p ∷ names) q i u = go (bytes_eq p q) refl i (is_under p h) refl (λ k. entry_found names q k u)
    where
      here : p ≡ q → (others : Option TreeEntry) → cond (named q (entry_under image h p)) (Some (entry_under image h p)) others ≡ Some (entry_under image h q)
      here e others =
          ap (λ b. cond b (Some (entry_under image h p)) others) (subst (λ w. bytes_eq (below h p) (below h w) ≡ true) e (place_itself (below h p)))
          ∙ ap (λ w. Some (entry_under image h w)) e

      other :
          (d : Bool) → bytes_eq (below h p) (below h q) ≡ d → bytes_eq p q ≡ false → is_under p h ≡ true → find (named q) (entries names) ≡ Some (entry_under image h q) →
          cond d (Some (entry_under image h p)) (find (named q) (entries names)) ≡ Some (entry_under image h q)
      other true d b s ih = absurd (clash_of _ (subst (λ w. bytes_eq p w ≡ true) (below_inj h p q s u (same_place (below h p) (below h q) d)) (place_itself p)) b)
      other false d b s ih = ih

      later : bytes_eq p q ≡ false → In q (p ∷ names) → In q names
      later b (inl e) = absurd (clash_of _ (subst (λ w. bytes_eq p w ≡ true) (sym e) (place_itself p)) b)
      later b (inr k) = k

      go :
          (b : Bool) → bytes_eq p q ≡ b → In q (p ∷ names) → (s : Bool) → is_under p h ≡ s → (In q names → find (named q) (entries names) ≡ Some (entry_under image h q)) →
          find (named q) (map (entry_under image h) (cond s (p ∷ filter (λ p. is_under p h) names) (filter (λ p. is_under p h) names))) ≡ Some (entry_under image h q)
      go true b k false s ih = absurd (clash_of _ (subst (λ w. is_under w h ≡ true) (sym (same_place p q b)) u) s)
      go true b k true s ih = here (same_place p q b) (find (named q) (entries names))
      go false b k false s ih = ih (later b k)
      go false b k true s ih = other (bytes_eq (below h p) (below h q)) refl b s (ih (later b k))

  -- the file at a place under a folder, in the folder's tree
  pub file_found :
      (q : Path) (f : Content) → In q image.names → file_at image q ≡ Some f → is_under q h ≡ true →
      part_at h q (Folder (entries image.names)) ≡ Some (File f.bytes)
  file_found q f i e u =
      ap (λ b. cond b (Some (Folder (entries image.names))) (file_among (entries image.names) (below h q))) (different (bytes_eq h q) refl)
      ∙ ap (option_and_then (λ (e : TreeEntry). option_map File e.bytes)) (entry_found image.names q i u)
      ∙ ap (λ o. option_map File (option_map (λ (f : Content). f.bytes) o)) e
    where
      different : (b : Bool) → bytes_eq h q ≡ b → b ≡ false
      different false k = refl
      different true k = absurd (clash_of (is_under h h) (subst (λ w. is_under w h ≡ true) (sym (same_place h q k)) u) (never_under_itself h))

-- ## The files of a folder's tree are those of its members

is_bytes : (o : Option Node) → is_some o ≡ true → is_some (bytes_of o) ≡ not (is_directory o)
is_bytes None h = absurd (true≢false (sym h))
is_bytes (Some Directory) h = refl
is_bytes (Some (Regular bytes time read_only)) h = refl

abbrev pub names_of : List Member → List Path
names_of ms = map (λ (m : Member). m.name) (filter (λ (m : Member). not m.folder) ms)

abbrev pub entry_names : List TreeEntry → List Path
entry_names es = map (λ (e : TreeEntry). e.name) (filter (λ (e : TreeEntry). is_some e.bytes) es)

abbrev member_at : Image → Path → Path → Member
member_at image h q = record { folder = is_folder image q; name = below h q }

listed_each :
    (image : Image) (h : Path) (qs : List Path) → ((q : Path) → In q qs → is_some (image.node q) ≡ true) →
    entry_names (map (entry_under image h) qs) ≡ names_of (map (member_at image h) qs)
listed_each image h [] stand = refl
listed_each image h (q ∷ qs) stand =
    ap (λ b. map (λ (e : TreeEntry). e.name) (cond b (entry_under image h q ∷ filter (λ (e : TreeEntry). is_some e.bytes) (map (entry_under image h) qs)) (filter (λ (e : TreeEntry). is_some e.bytes) (map (entry_under image h) qs))))
    (is_bytes (image.node q) (stand q (inl refl)))
    ∙ pick (not (is_folder image q)) (listed_each image h qs (λ p k. stand p (inr k)))
  where
    pick :
        (b : Bool) → entry_names (map (entry_under image h) qs) ≡ names_of (map (member_at image h) qs) →
        map (λ (e : TreeEntry). e.name) (cond b (entry_under image h q ∷ filter (λ (e : TreeEntry). is_some e.bytes) (map (entry_under image h) qs)) (filter (λ (e : TreeEntry). is_some e.bytes) (map (entry_under image h) qs)))
        ≡ map (λ (m : Member). m.name) (cond b (member_at image h q ∷ filter (λ (m : Member). not m.folder) (map (member_at image h) qs)) (filter (λ (m : Member). not m.folder) (map (member_at image h) qs)))
    pick true ih = ap (λ ns. below h q ∷ ns) ih
    pick false ih = ih

pub listed_under :
    (image : Image) (h : Path) → ((q : Path) → In q (names_under image h) → is_some (image.node q) ≡ true) →
    entry_names (entries image h image.names) ≡ names_of (members_under image h)
listed_under image h stand = listed_each image h (names_under image h) stand

member_same : (a b : Member) → same_member a b ≡ true → a ≡ b
member_same a b h =
    let n = same_place a.name b.name (and_right (same_flag a.folder b.folder) _ h) in
    let f = go a.folder b.folder (and_left (same_flag a.folder b.folder) _ h) in
    λ i. record { folder = f i; name = n i }
  where
    go : (x y : Bool) → same_flag x y ≡ true → x ≡ y
    go true true k = refl
    go true false k = sym k
    go false true k = k
    go false false k = refl

pub members_same : (xs ys : List Member) → pointwise same_member xs ys ≡ true → xs ≡ ys
members_same xs ys h = pointwise_same same_member member_same xs ys h
