-- A command that gave status 0 and good outputs: what stands there is what act gives on what stands at the inputs.
use Rattle.smk_world.specs.declared.recipe.Recipe.{Recipe}
use Rattle.std.proofs.Common.{◌≡◌, ◌⊎◌, ℕ, Bool, true, false, List, [], ◌∷◌, ◌++◌, map, refl, sym, ap, subst, inl, inr, arith, ◌∙◌, Option, Some, None}
use Rattle.std.specs.Prelude.{bytes_eq, IsTrue, is_some, ◌==◌, ◌&&◌, ◌||◌, not, if◌then◌else◌, option_map}
use Rattle.std.specs.List.{list_any, flat_map}
use Rattle.std.specs.Option.{option_and_then}
use lib.Pointwise.{pointwise}
use Rattle.smk_world.specs.declared.recipe.Out.{Out}
use Rattle.smk_world.specs.declared.recipe.Kind.{Kind}
use Rattle.smk_world.specs.declared.recipe.Kind.TheVariants.{Plain, Folder as FolderKind}
use Rattle.smk_world.specs.declared.event.Node.{Node}
use Rattle.smk_world.specs.declared.event.Node.TheVariants.{Regular, Directory}
use Rattle.smk_record.specs.declared.record.Stamp.{Stamp}
use Rattle.smk_record.specs.declared.record.Stamp.TheVariants.{Time, Sum, Made}
use Rattle.smk_base.specs.declared.tree.Tree.{Tree}
use Rattle.smk_base.specs.declared.tree.Tree.TheVariants.{File}
use Rattle.smk_world.specs.Trees.{Path, outs_of, all_of, value_at, is_good, are_good, file_in, IsIn, tree_among, part_at, below}
use Rattle.smk_base.specs.Path.{overlaps, is_under}
use Rattle.smk_store.specs.Images.{Content, is_directory}
use Rattle.smk_laws_protocol.specs.Protocol.{OpenJob, own, outputs}
use Rattle.smk_world.specs.World.{in_paths, World, out_paths}
use Rattle.smk_laws_protocol.proofs.View.{kind_in, is_whole, file_of}
use Rattle.smk_record.specs.Records.{same_member}
use Rattle.smk_laws_protocol.proofs.Views.{path_node, reads}
use Rattle.smk_store.specs.Soundness.{Outside}
use Rattle.smk_laws_protocol.proofs.Rows.{now, IsAtHand, IsGood}
use Rattle.smk_world.specs.Calls.{are_apart}
use Rattle.smk_laws_protocol.proofs.Between.{IsActed, given, trees_at}
use Rattle.smk_laws_protocol.proofs.Basics.{none_of, none_by, clash}
use Rattle.smk_laws_protocol.proofs.Crux.{source_file}
use Rattle.smk_base.proofs.Places.{place_itself}
use Rattle.smk_laws_protocol.proofs.Stays.{in_left}
use Rattle.smk_laws_protocol.proofs.Texts.{OverlapLaws}

-- ---- inputs at hand have trees

some_tree : (n : Option Node) (entries : Option Tree) → is_some entries ≡ true → (is_some (file_of n) ≡ true) ⊎ (is_directory n ≡ true) → is_some (if is_directory n then entries else option_map (λ (x : Content). File x.bytes) (file_of n)) ≡ true
some_tree None entries e (inl h) = clash false h refl
some_tree None entries e (inr h) = clash false h refl
some_tree (Some Directory) entries e h = e
some_tree (Some (Regular bytes time read_only)) entries e h = refl

pub file_has_tree : (o : Outside) (w : World) (q : Path) → is_some ((now o w).file q) ≡ true → is_some ((now o w).tree q) ≡ true
file_has_tree o w q h = some_tree (path_node (reads w) q) (Some _) refl (inl h)

pub whole_has_tree : (o : Outside) (w : World) (q : Path) (k : Kind) → IsTrue (is_whole (now o w) q k) → is_some ((now o w).tree q) ≡ true
whole_has_tree o w q Plain h = file_has_tree o w q h
whole_has_tree o w q FolderKind h = some_tree (path_node (reads w) q) (Some _) refl (inr (left ((now o w).is_folder q) (pointwise same_member ((now o w).members q) ((now o w).listed q)) h))
  where
    left : (a b : Bool) → (a && b) ≡ true → a ≡ true
    left a b h = grind arith

some_by : {A : Type 0} (x : Option A) (a : A) → x ≡ Some a → is_some x ≡ true
some_by x a h = rw h refl

pub hand_has_tree : (o : Outside) (w : World) (q : Path) (s : Stamp) → IsAtHand o (now o w) (q, s) → is_some ((now o w).tree q) ≡ true
hand_has_tree o w q (Time t) hand = file_has_tree o w q (some_by ((now o w).file q) hand.0 (source_file (now o w) q hand.0 hand.1))
hand_has_tree o w q (Sum t d) hand = file_has_tree o w q (some_by ((now o w).file q) hand.0 (source_file (now o w) q hand.0 hand.1))
hand_has_tree o w q (Made m) hand = go hand.2.3
  where
    go : (q ≡ hand.0) ⊎ IsTrue (is_some ((now o w).file q)) → is_some ((now o w).tree q) ≡ true
    go (inl e) = subst (λ x. is_some ((now o w).tree x) ≡ true) (sym e) (whole_has_tree o w hand.0 (kind_in hand.1 hand.0) hand.2.2)
    go (inr f) = file_has_tree o w q f

pub trees_of : (f : Path → Option Tree) (ps : List Path) → ((q : Path) → IsIn ps q → is_some (f q) ≡ true) → (trees : List Tree) × (map f ps ≡ map Some trees)
trees_of f [] h = ([], refl)
trees_of f (p ∷ ps) h = with_first (f p) refl (trees_of f ps (λ q i. h q (inr i)))
  where
    with_first : (x : Option Tree) → f p ≡ x → ((trees : List Tree) × (map f ps ≡ map Some trees)) → (trees : List Tree) × (f p ∷ map f ps ≡ map Some trees)
    with_first None e r = clash (is_some (f p)) (h p (inl refl)) (ap (λ (y : Option Tree). is_some y) e)
    with_first (Some t) e r = (t ∷ r.0, λ i. e i ∷ r.1 i)

pub all_some : {A : Type 0} (xs : List A) → all_of (map Some xs) ≡ Some xs
all_some [] = refl
all_some (x ∷ xs) = ap (option_map (λ ys. x ∷ ys)) (all_some xs)

-- ---- the outputs' trees

good_all : (f : Path → Option Tree) (outs : List Out) → ((x : Out) → IsIn outs x → is_good x.path x.kind (f x.path) ≡ true) → are_good outs (map f (map (λ (x : Out). x.path) outs)) ≡ true
good_all f [] h = refl
good_all f (x ∷ outs) h = both (h x (inl refl)) (good_all f outs (λ y i. h y (inr i)))
  where
    both : {a b : Bool} → a ≡ true → b ≡ true → (a && b) ≡ true
    both h k = grind arith

not_left : (a b : Bool) → (not a && b) ≡ true → a ≡ false
not_left a b h = grind arith

and_right : (a b : Bool) → (not a && b) ≡ true → b ≡ true
and_right a b h = grind arith

pick : {A : Type 0} (b : Bool) (a c : A) → b ≡ true → (if b then a else c) ≡ a
pick b a c h = rw h refl

whole_part : (h p : Path) (t : Option Tree) → bytes_eq h p ≡ true → option_and_then (part_at h p) t ≡ t
whole_part h p None e = refl
whole_part h p (Some t) e = ap (λ (b : Bool). if b then Some t else file_in t (below h p)) e

tree_of : (laws : OverlapLaws) (f : Path → Option Tree) (outs : List Out) (p : Path) → are_apart (map (λ (x : Out). x.path) outs) ≡ true → IsIn (map (λ (x : Out). x.path) outs) p → tree_among outs (map f (map (λ (x : Out). x.path) outs)) p ≡ f p
tree_of laws f [] p apart i = absurd i
tree_of laws f (x ∷ outs) p apart (inl e) =
    let same : bytes_eq x.path p ≡ true = subst (λ y. bytes_eq x.path y ≡ true) (sym e) (place_itself x.path) in
    pick (bytes_eq x.path p || is_under p x.path) (option_and_then (part_at x.path p) (f x.path)) (tree_among outs (map f (map (λ (x : Out). x.path) outs)) p) (first_or (bytes_eq x.path p) (is_under p x.path) same)
    ∙ whole_part x.path p (f x.path) same
    ∙ ap f (sym e)
  where
    first_or : (a b : Bool) → a ≡ true → (a || b) ≡ true
    first_or true b h = refl
    first_or false b h = clash false h refl
tree_of laws f (x ∷ outs) p apart (inr i) =
    let rest = tree_of laws f outs p (and_right (list_any (overlaps x.path) (map (λ (x : Out). x.path) outs)) (are_apart (map (λ (x : Out). x.path) outs)) apart) i in
    let clear = none_of (overlaps x.path) (map (λ (x : Out). x.path) outs) p (not_left (list_any (overlaps x.path) (map (λ (x : Out). x.path) outs)) (are_apart (map (λ (x : Out). x.path) outs)) apart) i in
    ap (λ (b : Bool). if b then option_and_then (part_at x.path p) (f x.path) else tree_among outs (map f (map (λ (x : Out). x.path) outs)) p) (neither (bytes_eq x.path p) (is_under x.path p) (is_under p x.path) clear) ∙ rest
  where
    neither : (a b c : Bool) → (a || (b || c)) ≡ false → (a || c) ≡ false
    neither a b c h = grind arith

map_append : {A B : Type 0} (g : A → B) (xs ys : List A) → map g (xs ++ ys) ≡ map g xs ++ map g ys
map_append g [] ys = refl
map_append g (x ∷ xs) ys = ap (λ zs. g x ∷ zs) (map_append g xs ys)

outs_list : {A B C : Type 0} (f : A → List B) (g : B → C) (xs : List A) → flat_map (λ x. map g (f x)) xs ≡ map g (flat_map f xs)
outs_list f g [] = refl
outs_list f g (x ∷ xs) = ap (λ ys. map g (f x) ++ ys) (outs_list f g xs) ∙ sym (map_append g (f x) (flat_map f xs))

pub outs_are : (r : Recipe) → out_paths r ≡ map (λ (x : Out). x.path) (outs_of r)
outs_are r = outs_list (λ item. item.outs) (λ (x : Out). x.path) r.outputs

apart_left : (xs ys : List Path) → are_apart (xs ++ ys) ≡ true → are_apart xs ≡ true
apart_left [] ys h = refl
apart_left (x ∷ xs) ys h =
    join (list_any (overlaps x) xs) (are_apart xs)
    (none_by (overlaps x) xs (λ y i. none_of (overlaps x) (xs ++ ys) y (not_left (list_any (overlaps x) (xs ++ ys)) (are_apart (xs ++ ys)) h) (in_left xs ys y i)))
    (apart_left xs ys (and_right (list_any (overlaps x) (xs ++ ys)) (are_apart (xs ++ ys)) h))
  where
    join : (a b : Bool) → a ≡ false → b ≡ true → (not a && b) ≡ true
    join a b h k = grind arith

-- what act gives at an output, by what stands
pub given_is :
    (o : Outside) (laws : OverlapLaws) (w : World) (j : OpenJob) → are_apart (own j) ≡ true →
    ((q : Path) → IsIn (in_paths j.recipe) q → is_some ((now o w).tree q) ≡ true) →
    IsActed o (now o w) j → ((x : Out) → IsIn (outs_of j.recipe) x → IsGood o w x) → (p : Path) → IsIn (outputs j) p → given o (now o w) j p ≡ (now o w).tree p
given_is o laws w j apart have acted good p i =
    let trees = trees_of (now o w).tree (in_paths j.recipe) have in
    let gave = acted trees.0 trees.1 in
    ap (λ ts. value_at o.act j.recipe p (all_of ts)) trees.1
    ∙ ap (value_at o.act j.recipe p) (all_some trees.0)
    ∙ value (o.act j.recipe trees.0).status (o.act j.recipe trees.0).outputs gave.0 gave.1
  where
    zero_zero : (n : ℕ) → n ≡ 0 → (n == 0) ≡ true
    zero_zero n h = grind arith

    value : (status : ℕ) (ts : List (Option Tree)) → status ≡ 0 → ts ≡ trees_at (now o w) (outputs j) → (if status == 0 && are_good (outs_of j.recipe) ts then tree_among (outs_of j.recipe) ts p else None) ≡ (now o w).tree p
    value status ts zero is =
        rw (zero_zero status zero, is ∙ ap (trees_at (now o w)) (outs_are j.recipe), good_all (now o w).tree (outs_of j.recipe) good)
        (tree_of laws (now o w).tree (outs_of j.recipe) p
        (subst (λ ps. are_apart ps ≡ true) (outs_are j.recipe) (apart_left (outputs j) j.logs apart))
        (subst (λ ps. IsIn ps p) (outs_are j.recipe) i))
