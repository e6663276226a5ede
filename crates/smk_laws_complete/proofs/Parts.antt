-- What a command gives at a file of its directory output is the file in the directory's tree.
use Rattle.std.proofs.Common.{◌≡◌, ◌⊎◌, ℕ, ◌+◌, suc, Bool, true, false, cond, ◌&&◌, ◌||◌, List, [], ◌∷◌, ◌++◌, map, filter, find, drop, length, refl, sym, ap, subst, inl, inr, ◌∙◌, arith, Option, Some, None, option_map, option_and_then, is_some, true≢false, eqb, eqb-true}
use Rattle.std.specs.Prelude.{bytes_eq, ◌==◌}
use Rattle.smk_base.specs.declared.tree.Tree.{Tree}
use Rattle.smk_base.specs.declared.tree.Tree.TheVariants.{File, Folder}
use Rattle.smk_base.specs.declared.tree.TreeEntry.{TreeEntry}
use Rattle.smk_base.specs.Path.{is_under}
use Rattle.smk_base.proofs.Places.{same_place, place_itself}
use Rattle.smk_base.proofs.Under.{never_under_itself}
use Rattle.smk_world.specs.declared.recipe.Out.{Out}
use Rattle.smk_world.specs.declared.recipe.Recipe.{Recipe}
use Rattle.smk_world.specs.Calls.{in_folder}
use Rattle.smk_world.specs.World.{out_paths}
use Rattle.smk_world.specs.Trees.{Path, Act, among, are_good, below, file_among, file_in, files_of, outs_of, part_at, tree_among, value_at}
use Rattle.smk_store.specs.Images.{Image, Content, content_of, bytes_of, entry_under, is_file, is_folder, names_under, tree_now}
use Rattle.smk_laws_plan.proofs.CurrentLists.{In, find_in, filter_in, in_filter, in_map, map_in, some_inj, none_some, clash_of, and_left, and_right, or_cases, or_first, or_second}
use Rattle.smk_laws_plan.proofs.CurrentPaths.{Touch, touch_overlaps, Above, above_touch, in_among}
use Rattle.smk_laws_plan.proofs.CurrentApart.{Apart}
use Rattle.smk_laws_plan.proofs.CurrentChosen.{paths_are}

-- ## The parts of what a command gives

at_or_above : (p q : Path) → (bytes_eq p q || is_under q p) ≡ true → Above q p
at_or_above p q h = go (or_cases (bytes_eq p q) (is_under q p) h)
  where
    go : (bytes_eq p q ≡ true) ⊎ (is_under q p ≡ true) → Above q p
    go (inl e) = inl (sym (same_place p q e))
    go (inr u) = inr u

above_at : (p q : Path) → Above q p → (bytes_eq p q || is_under q p) ≡ true
above_at p q (inl e) = or_first (bytes_eq p q) (is_under q p) (subst (λ w. bytes_eq p w ≡ true) (sym e) (place_itself p))
above_at p q (inr u) = or_second (bytes_eq p q) (is_under q p) u

own_part :
    (p q : Path) (o : Option Tree) (t x : Tree) (a b : Option Tree) → Above q p →
    cond (bytes_eq p p || is_under p p) (option_and_then (part_at p p) o) a ≡ Some t →
    cond (bytes_eq p q || is_under q p) (option_and_then (part_at p q) o) b ≡ Some x → part_at p q t ≡ Some x
own_part p q None t x a b u e f = absurd (none_some None t refl (sym (ap (λ c. cond (c || is_under p p) None a) (place_itself p)) ∙ e))
own_part p q (Some s) t x a b u e f =
    let same : s ≡ t = some_inj s t (sym (ap (λ c. cond (c || is_under p p) (cond c (Some s) (file_in s (below p p))) a) (place_itself p)) ∙ e) in
    ap (part_at p q) (sym same) ∙ (sym (ap (λ c. cond c (part_at p q s) b) (above_at p q u)) ∙ f)

part_of :
    (outs : List Out) (trees : List (Option Tree)) (h q : Path) (t x : Tree) →
    Apart (map (λ (o : Out). o.path) outs) → In h (map (λ (o : Out). o.path) outs) → Above q h →
    tree_among outs trees h ≡ Some t → tree_among outs trees q ≡ Some x → part_at h q t ≡ Some x
part_of [] trees h q t x a i u e f = absurd i
part_of (o ∷ outs) [] h q t x a i u e f = absurd (none_some None t refl e)
part_of (o ∷ outs) (t0 ∷ trees) h q t x a (inl s) u e f =
    subst (λ w. part_at w q t ≡ Some x) (sym s)
    (own_part o.path q t0 t x (tree_among outs trees o.path) (tree_among outs trees q) (subst (Above q) s u)
    (subst (λ w. tree_among (o ∷ outs) (t0 ∷ trees) w ≡ Some t) s e) f)
part_of (o ∷ outs) (t0 ∷ trees) h q t x a (inr i) u e f =
    go (bytes_eq o.path h || is_under h o.path) refl (bytes_eq o.path q || is_under q o.path) refl e f (λ k l. part_of outs trees h q t x a.1 i u k l)
  where
    apart : Touch h o.path → ⊥
    apart k = clash_of _ (touch_overlaps h o.path k) (a.0 h i)

    turn : Above h o.path → Touch h o.path
    turn (inl s) = inl s
    turn (inr v) = inr (inl v)

    go :
        (b : Bool) → (bytes_eq o.path h || is_under h o.path) ≡ b → (d : Bool) → (bytes_eq o.path q || is_under q o.path) ≡ d →
        cond b (option_and_then (part_at o.path h) t0) (tree_among outs trees h) ≡ Some t →
        cond d (option_and_then (part_at o.path q) t0) (tree_among outs trees q) ≡ Some x →
        (tree_among outs trees h ≡ Some t → tree_among outs trees q ≡ Some x → part_at h q t ≡ Some x) → part_at h q t ≡ Some x
    go true bh d dh k l ih = absurd (apart (turn (at_or_above o.path h bh)))
    go false bh true dh k l ih = absurd (apart (above_touch q h o.path u (at_or_above o.path q dh)))
    go false bh false dh k l ih = ih k l

pub value_in :
    (act : Act) (r : Recipe) (h q : Path) (vs : List Tree) (t x : Tree) → Apart (out_paths r) → In h (out_paths r) → Above q h →
    value_at act r h (Some vs) ≡ Some t → value_at act r q (Some vs) ≡ Some x → part_at h q t ≡ Some x
value_in act r h q vs t x a i u e f = go ((act r vs).status == 0 && are_good (outs_of r) (act r vs).outputs) e f
  where
    go :
        (b : Bool) → cond b (tree_among (outs_of r) (act r vs).outputs h) None ≡ Some t →
        cond b (tree_among (outs_of r) (act r vs).outputs q) None ≡ Some x → part_at h q t ≡ Some x
    go true k l = part_of (outs_of r) (act r vs).outputs h q t x (subst Apart (paths_are r) a) (subst (In h) (paths_are r) i) u k l
    go false k l = absurd (none_some None t refl k)

-- ## Files of a folder

pub below_under : (a h : Path) → is_under a h ≡ true → a ≡ in_folder h (below h a)
below_under [] h u = absurd (true≢false (sym u))
below_under (b ∷ a) [] u = ap (λ x. x ∷ a) (eqb-true b 47 u)
below_under (b ∷ a) (c ∷ h) u =
    let longer : suc (length h + 1) ≡ suc (length h) + 1 = omega arith in
    let more : a ≡ h ++ 47 ∷ drop (suc (length h) + 1) (b ∷ a) = below_under a h (and_right (eqb b c) (is_under a h) u) ∙ ap (λ k. h ++ 47 ∷ drop k (b ∷ a)) longer in
    λ i. eqb-true b c (and_left (eqb b c) (is_under a h) u) i ∷ more i

under_part : (h q : Path) (t : Tree) → is_under q h ≡ true → part_at h q t ≡ file_in t (below h q)
under_part h q t u = ap (λ b. cond b (Some t) (file_in t (below h q))) (different (bytes_eq h q) refl)
  where
    different : (b : Bool) → bytes_eq h q ≡ b → b ≡ false
    different false k = refl
    different true k = absurd (clash_of (is_under h h) (subst (λ w. is_under w h ≡ true) (sym (same_place h q k)) u) (never_under_itself h))

mapped_some : {A B : Type 0} (f : A → B) (o : Option A) (x : B) → option_map f o ≡ Some x → is_some o ≡ true
mapped_some f None x h = absurd (none_some None x refl h)
mapped_some f (Some y) x h = refl

some_mapped : {A B : Type 0} (f : A → B) (o : Option A) → is_some (option_map f o) ≡ true → is_some o ≡ true
some_mapped f None h = h
some_mapped f (Some y) h = refl

-- an entry with bytes is behind it
entry_of :
    (entries : List TreeEntry) (name : Path) (x : Tree) → file_among entries name ≡ Some x →
    (e : TreeEntry) × In e entries × (e.name ≡ name) × (is_some e.bytes ≡ true)
entry_of entries name x h = go (find (λ (e : TreeEntry). bytes_eq e.name name) entries) refl h
  where
    go :
        (o : Option TreeEntry) → find (λ (e : TreeEntry). bytes_eq e.name name) entries ≡ o →
        option_and_then (λ (e : TreeEntry). option_map File e.bytes) o ≡ Some x → (e : TreeEntry) × In e entries × (e.name ≡ name) × (is_some e.bytes ≡ true)
    go None e k = absurd (none_some None x refl k)
    go (Some y) e k =
        let r = find_in (λ (e : TreeEntry). bytes_eq e.name name) entries y e in (y, r.0, same_place y.name name r.1, mapped_some File y.bytes x k)

-- the tree has it among its files
pub part_listed : (h q : Path) (t x : Tree) → is_under q h ≡ true → part_at h q t ≡ Some x → among (map (in_folder h) (files_of t)) q ≡ true
part_listed h q t x u e = go t (sym (under_part h q t u) ∙ e)
  where
    go : (t : Tree) → file_in t (below h q) ≡ Some x → among (map (in_folder h) (files_of t)) q ≡ true
    go (File bytes) k = absurd (none_some None x refl k)
    go (Folder entries) k =
        let r = entry_of entries (below h q) x k in
        let named = in_map (λ (e : TreeEntry). e.name) (filter (λ (e : TreeEntry). is_some e.bytes) entries) r.0 (in_filter (λ (e : TreeEntry). is_some e.bytes) entries r.0 r.1 r.3) in
        let inn = in_map (in_folder h) (files_of (Folder entries)) r.0.name named in
        in_among (map (in_folder h) (files_of (Folder entries))) q
        (subst (λ p. In p (map (in_folder h) (files_of (Folder entries)))) (ap (in_folder h) r.2 ∙ sym (below_under q h u)) inn)

-- the folder has it as a file
pub part_file : (image : Image) (h q : Path) (t x : Tree) → tree_now image h ≡ Some t → is_under q h ≡ true → part_at h q t ≡ Some x → is_file image q ≡ true
part_file image h q t x now u e = go (is_folder image h) now (sym (under_part h q t u) ∙ e)
  where
    plain : (o : Option (List ℕ)) → option_map File o ≡ Some t → file_in t (below h q) ≡ Some x → is_file image q ≡ true
    plain None n k = absurd (none_some None t refl n)
    plain (Some bytes) n k = absurd (none_some None x refl (ap (λ s. file_in s (below h q)) (some_inj (File bytes) t n) ∙ k))

    found : file_among (map (entry_under image h) (names_under image h)) (below h q) ≡ Some x → is_file image q ≡ true
    found k =
        let r = entry_of (map (entry_under image h) (names_under image h)) (below h q) x k in
        let p = map_in (entry_under image h) (names_under image h) r.0 r.1 in
        let under = (filter_in (λ p. is_under p h) image.names p.0 p.1).1 in
        let same : p.0 ≡ q =
        below_under p.0 h under ∙ ap (in_folder h) (sym (ap (λ (e : TreeEntry). e.name) p.2) ∙ r.2) ∙ sym (below_under q h u) in
        subst (λ w. is_file image w ≡ true) same
        (some_mapped (λ (f : Content). f.bytes) (content_of (image.node p.0)) (subst (λ (e : TreeEntry). is_some e.bytes ≡ true) p.2 r.3))

    go :
        (b : Bool) → cond b (Some (Folder (map (entry_under image h) (names_under image h)))) (option_map File (bytes_of (image.node h))) ≡ Some t →
        file_in t (below h q) ≡ Some x → is_file image q ≡ true
    go true n k = found (ap (λ s. file_in s (below h q)) (some_inj (Folder (map (entry_under image h) (names_under image h))) t n) ∙ k)
    go false n k = plain (bytes_of (image.node h)) n k
