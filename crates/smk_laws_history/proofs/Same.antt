-- Two images of nodes that have the same at each place are the same; so a crash of the world of an image leaves that image.
use Rattle.std.proofs.Common.{◌≡◌, Bool, true, false, cond, List, [], ◌∷◌, Option, Some, None, refl, sym, ap, subst, ◌∙◌, bytes_eq, inl, inr}
use Rattle.std.proofs.lemmas.Cmp.{nat_list_cmp_total, tied_itself}
use Rattle.std.specs.List.{AllByRecursion}
use Rattle.std.specs.List.Sorted.{IsStrictlySortedBy}
use Rattle.std.specs.Cmp.Lexicographic.{slice_cmp}
use Rattle.std.specs.Ordering.{nat_cmp}
use Rattle.std.specs.declared.cmp.Ordering.{Ordering}
use Rattle.std.specs.declared.cmp.Ordering.TheVariants.{Less, Equal}
use Rattle.smk_base.proofs.Places.{same_place, same_flipped, place_itself}
use Rattle.smk_world.specs.declared.event.Node.{Node}
use Rattle.smk_world.specs.World.{Nodes, node_in, places_in, IsRising, Leaves, MayLeave, firmly, world_of}
use Rattle.smk_world.specs.Trees.{Path}

abbrev Above : Path → List Path → Type 0
Above k ps = AllByRecursion (λ y. slice_cmp nat_cmp k y ≡ Less) ps

less_is_not_equal : (a : Ordering) → a ≡ Equal → a ≡ Less → ⊥
less_is_not_equal a e h = cc

less_itself : (p : Path) → slice_cmp nat_cmp p p ≡ Less → ⊥
less_itself p h = less_is_not_equal (slice_cmp nat_cmp p p) (tied_itself nat_list_cmp_total p) h

none_some : (n : Node) → None ≡ Some n → ⊥
none_some n h = cc

some_is : (m n : Node) → Some m ≡ Some n → m ≡ n
some_is m n h = cc

at_head : (x : Path × Node) (xs : Nodes) → node_in (x ∷ xs) x.0 ≡ Some x.1
at_head x xs = ap (λ b. cond b (Some x.1) (node_in xs x.0)) (place_itself x.0)

at_other : (q : Path) (x : Path × Node) (xs : Nodes) → bytes_eq q x.0 ≡ false → node_in (x ∷ xs) q ≡ node_in xs q
at_other q x xs e = ap (λ b. cond b (Some x.1) (node_in xs q)) e

one_named :
    (k q : Path) (x : Path × Node) (n : Node) (more : Option Node) (b : Bool) → bytes_eq q x.0 ≡ b →
    slice_cmp nat_cmp k x.0 ≡ Less → (more ≡ Some n → slice_cmp nat_cmp k q ≡ Less) → cond b (Some x.1) more ≡ Some n → slice_cmp nat_cmp k q ≡ Less
one_named k q x n more true e less ih h = subst (λ z. slice_cmp nat_cmp k z ≡ Less) (sym (same_place q x.0 e)) less
one_named k q x n more false e less ih h = ih h

-- what is named among places above k is above it
above_named : (k q : Path) (xs : Nodes) (n : Node) → Above k (places_in xs) → node_in xs q ≡ Some n → slice_cmp nat_cmp k q ≡ Less
above_named k q [] n all h = absurd (none_some n h)
above_named k q (x ∷ xs) n all h = one_named k q x n (node_in xs q) (bytes_eq q x.0) refl all.0 (above_named k q xs n all.1) h

none_or : (k : Path) (xs : Nodes) → Above k (places_in xs) → (o : Option Node) → node_in xs k ≡ o → node_in xs k ≡ None
none_or k xs all None e = e
none_or k xs all (Some n) e = absurd (less_itself k (above_named k k xs n all e))

none_itself : (k : Path) (xs : Nodes) → Above k (places_in xs) → node_in xs k ≡ None
none_itself k xs all = none_or k xs all (node_in xs k) refl

same_head :
    (x y : Path × Node) (xs ys : Nodes) → Above x.0 (places_in xs) → Above y.0 (places_in ys) →
    ((q : Path) → node_in (x ∷ xs) q ≡ node_in (y ∷ ys) q) → (b : Bool) → bytes_eq x.0 y.0 ≡ b → x.0 ≡ y.0
same_head x y xs ys a c same true e = same_place x.0 y.0 e
same_head x y xs ys a c same false e =
    let below_x = above_named y.0 x.0 ys x.1 c (sym (at_other x.0 y ys e) ∙ (sym (same x.0) ∙ at_head x xs)) in
    let below_y = above_named x.0 y.0 xs y.1 a (sym (at_other y.0 x xs (sym (same_flipped x.0 y.0) ∙ e)) ∙ (same y.0 ∙ at_head y ys)) in
    absurd (less_itself y.0 (nat_list_cmp_total.trans y.0 x.0 y.0 below_x below_y))

same_tail :
    (x y : Path × Node) (xs ys : Nodes) → Above x.0 (places_in xs) → Above y.0 (places_in ys) →
    ((q : Path) → node_in (x ∷ xs) q ≡ node_in (y ∷ ys) q) → x.0 ≡ y.0 → (q : Path) (b : Bool) → bytes_eq q x.0 ≡ b → node_in xs q ≡ node_in ys q
same_tail x y xs ys a c same head q true e =
    let is_x = same_place q x.0 e in
    subst (λ z. node_in xs z ≡ None) (sym is_x) (none_itself x.0 xs a) ∙ sym (subst (λ z. node_in ys z ≡ None) (sym (is_x ∙ head)) (none_itself y.0 ys c))
same_tail x y xs ys a c same head q false e =
    sym (at_other q x xs e) ∙ (same q ∙ at_other q y ys (subst (λ z. bytes_eq q z ≡ false) head e))

no_entry : (x : Path × Node) (xs : Nodes) → None ≡ node_in (x ∷ xs) x.0 → ⊥
no_entry x xs h = none_some x.1 (h ∙ at_head x xs)

pub same_entries : (xs ys : Nodes) → IsRising (places_in xs) → IsRising (places_in ys) → ((q : Path) → node_in xs q ≡ node_in ys q) → xs ≡ ys
unfolding IsStrictlySortedBy
same_entries [] [] a c same = refl
same_entries [] (y ∷ ys) a c same = absurd (no_entry y ys (same y.0))
same_entries (x ∷ xs) [] a c same = absurd (no_entry x xs (sym (same x.0)))
same_entries (x ∷ xs) (y ∷ ys) a c same =
    let head = same_head x y xs ys a.0 c.0 same (bytes_eq x.0 y.0) refl in
    let node = some_is x.1 y.1 (sym (at_head x xs) ∙ (same x.0 ∙ (subst (λ z. node_in (y ∷ ys) z ≡ Some y.1) (sym head) (at_head y ys)))) in
    let rest = same_entries xs ys a.1 c.1 (λ q. same_tail x y xs ys a.0 c.0 same head q (bytes_eq q x.0) refl) in
    λ i. (head i, node i) ∷ rest i

firm_one : (a b : Option Node) → MayLeave (firmly a) b → b ≡ a
firm_one a b (inl e) = e
firm_one a b (inr e) = absurd e

-- a crash of the world of an image leaves that image
pub leaves_same : (nodes after : Nodes) → IsRising (places_in nodes) → Leaves (world_of nodes) after → after ≡ nodes
leaves_same nodes after rising leaves = same_entries after nodes leaves.rising rising (λ q. firm_one (node_in nodes q) (node_in after q) (leaves.each q))
