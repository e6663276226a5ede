-- Going over the rules that are tried for a path misses no job.
use Rattle.std.proofs.Common.{◌≡◌, ◌⊎◌, inl, inr, ℕ, zero, suc, ◌+◌, ◌<◌, ◌≤◌, ◌==◌, ◌||◌, Bool, true, false, List, [], ◌∷◌, ◌++◌, map, drop, length, Option, Some, None, option_map, slice_get, refl, sym, ap, ap₂, subst, ◌∙◌, arith}
use Rattle.std.specs.List.{flat_map, filter_map, cons_option}
use Rattle.std.specs.Prelude.{nat_lt}
use Rattle.std.proofs.lemmas.Bool.{ltb-false, eqb-true, ne_eqb, or_parts, and_parts, cases_order}
use Rattle.std.proofs.lemmas.Slice.Eq.{bytes_eq-Decides}
use Rattle.std.proofs.Math.Bool.{or_assoc}
use Rattle.smk_base.specs.declared.tree.Pair.{Pair}
use Rattle.smk_world.specs.Trees.{Path, first}
use Rattle.smk_pattern.specs.Shapes.{Text, Part, Wildcard}
use Rattle.smk_pattern.specs.Shapes.Part.{text, wild}
use Rattle.smk_pattern.specs.Grammar.{Piece, plain, hole, limit_for, inline_limits}
use Rattle.smk_pattern.specs.Fitting.{filled, bound_pairs}
use Rattle.smk_pattern.specs.Bound.{begins, bindings, first_values}
use Rattle.smk_pattern.specs.Reading.{names_in, pieces, part_in, shape_of, by_name}
use Rattle.smk_flow.specs.declared.rule.RulePart.{RulePart}
use Rattle.smk_flow.specs.declared.workflow.Rule.{Rule}
use Rattle.smk_flow.specs.Checks.{out_texts}
use Rattle.smk_flow.specs.PatternsOf.{rule_of}
use Rattle.smk_choose.specs.declared.choice.Making.{Making}
use Rattle.smk_choose.specs.declared.readings.Reading.{Reading}
use Rattle.smk_choose.specs.declared.index.Index.{Index}
use Rattle.smk_choose.specs.Readings.{bound_by, making_at, listed, by_folder, by_folders, members_from, outputs_from}
use Rattle.smk_choose.specs.Index.{Rises, has_number, IsLeast, own_in, own_text, may_be, may_fit, tries, outputs_in, outputs_at, directories_in, directories_at, AreIndexed, IsIndex, AreFolders}
use Rattle.smk_choose.proofs.Indexed.{rises_from}

-- ---- a pattern without wildcards fits its own text alone

abbrev AreFixed : List Part → Type 0
AreFixed [] = Unit {0}
AreFixed (text t ∷ ps) = AreFixed ps
AreFixed (wild n ∷ ps) = ⊥

fixed : (names : List Text) (ps : List Piece) → names_in ps ≡ [] → AreFixed (map (part_in names) ps)
fixed names [] e = tt
fixed names (plain t ∷ ps) e = fixed names ps e
fixed names (hole name limit ∷ ps) e = absurd (no_names name _ e)
  where
    no_names : (name : Text) (more : List Text) → name ∷ more ≡ [] → ⊥
    no_names name more e = cc

-- a text with which a path begins is followed by what is left
begun : (t p : Text) → begins t p ≡ true → t ++ drop (length t) p ≡ p
begun [] p e = refl
begun (b ∷ t) [] e = absurd (not_true e)
  where
    not_true : false ≡ true → ⊥
    not_true e = cc
begun (b ∷ t) (c ∷ p) e =
    let two = and_parts (b == c) (begins t p) e in
    ap₂ ◌∷◌ (eqb-true b c two.0) (begun t p two.1)

no_bindings : (limits : List (Option Text)) (parts : List Part) (p : Text) → AreFixed parts → (filled parts [] ≡ p → ⊥) → bindings limits parts p [] ≡ []
no_bindings limits [] [] fix other = absurd (other refl)
no_bindings limits [] (b ∷ p) fix other = refl
no_bindings limits (wild n ∷ ps) p fix other = absurd fix
no_bindings limits (text t ∷ ps) p fix other =
    go (begins t p) refl (λ e. no_bindings limits ps (drop (length t) p) fix (λ same. other (ap (λ q. t ++ q) same ∙ begun t p e)))
  where
    go : (b : Bool) → begins t p ≡ b → (begins t p ≡ true → bindings limits ps (drop (length t) p) [] ≡ []) →
        elim b as (λ _. List (List Text)) [ true ↦ bindings limits ps (drop (length t) p) [] | false ↦ [] ] ≡ []
    go true e more = more e
    go false e more = refl

not_own : (limits : List Pair) (t : Text) (p : Path) → may_be (own_text (shape_of limits t)) p ≡ false → bound_by p (shape_of limits t) ≡ None
not_own limits t p refused = go (names_in (pieces t)) refl refused
  where
    wildcard : Text → Wildcard
    wildcard name = record { name = name; limit = limit_for limits name (inline_limits name (pieces t)) }

    parts : List Part
    parts = map (part_in (names_in (pieces t))) (pieces t)

    never : true ≡ false → ⊥
    never e = cc

    go : (names : List Text) → names_in (pieces t) ≡ names → may_be (own_in parts (map wildcard names)) p ≡ false → bound_by p (shape_of limits t) ≡ None
    go [] none other =
        ap (λ vs. option_map (λ values. by_name (bound_pairs (shape_of limits t).wildcards values)) (first_values vs))
        (no_bindings (map (λ (w : Wildcard). w.limit) (shape_of limits t).wildcards) parts p (fixed (names_in (pieces t)) (pieces t) none)
        (λ same. never (sym ((bytes_eq-Decides (filled parts []) p).1 same) ∙ other)))
    go (name ∷ names) some other = absurd (never other)

none_bound : (limits : List Pair) (texts : List Text) (p : Path) → may_fit (map (shape_of limits) texts) p ≡ false → filter_map (bound_by p) (map (shape_of limits) texts) ≡ []
none_bound limits [] p refused = refl
none_bound limits (t ∷ texts) p refused =
    let two = or_parts (may_be (own_text (shape_of limits t)) p) (may_fit (map (shape_of limits) texts) p) refused in
    ap₂ cons_option (not_own limits t p two.0) (none_bound limits texts p two.1)

no_output : (rules : List RulePart) (k n : ℕ) (p : Path) → may_fit (outputs_at (map rule_of rules) n) p ≡ false → by_folder k (outputs_at (map rule_of rules) n) p ≡ []
no_output [] k n p refused = refl
no_output (r ∷ rules) k zero p refused =
    ap (λ found. listed (option_map (making_at k) (first found))) (none_bound r.limits (out_texts r) p refused)
no_output (r ∷ rules) k (suc n) p refused = no_output rules k n p refused

-- a rule that isn't tried has no output that the path fits
pub index_is : (rules : List RulePart) (index : Index) → AreIndexed (map rule_of rules) index → IsIndex (map rule_of rules) index
index_is rules index h = record {
  ordered = h.ordered;
  misses = λ p n refused. no_output rules n n p (go p n refused (may_fit (outputs_at (map rule_of rules) n) p) refl);
}
  where
    never : (b : Bool) → b ≡ true → b ≡ false → ⊥
    never b e f = cc

    go : (p : Path) (n : ℕ) → tries index p n ≡ false → (b : Bool) → may_fit (outputs_at (map rule_of rules) n) p ≡ b → may_fit (outputs_at (map rule_of rules) n) p ≡ false
    go p n refused true e = absurd (never (tries index p n) (h.finds p n e) refused)
    go p n refused false e = e

-- ---- going over numbers

above : (n from : ℕ) (ns : List ℕ) → n < from → Rises from ns → has_number n ns ≡ false
above n from [] lt h = refl
above n from (m ∷ ns) lt h =
    ap₂ ◌||◌ (ne_eqb n m (λ e. omega (arith, e, lt, h.0))) (above n (m + 1) ns (omega (arith, lt, h.0)) h.1)

none_over : {A : Type 0} (f : ℕ → List A) (k : ℕ) (ns : List ℕ) → Rises k ns → ((n : ℕ) → k ≤ n → f n ≡ []) → flat_map f ns ≡ []
none_over f k [] h none = refl
none_over f k (n ∷ ns) h none = ap₂ ◌++◌ (none n h.0) (none_over f k ns (rises_from (n + 1) k ns (omega (arith, h.0)) h.1) none)

-- what is made of each item by its number, where the first has this one
abbrev over : {X A : Type 0} → (ℕ → X → List A) → ℕ → List X → List A
over g k [] = []
over g k (x ∷ xs) = g k x ++ over g (k + 1) xs

-- one item more, where all later ones are gone over
one_over : {X A : Type 0} (g : ℕ → X → List A) (f : ℕ → List A) (x : X) (xs : List X) (k : ℕ) (ns : List ℕ) → f k ≡ g k x →
    Rises k ns → ((n : ℕ) → has_number n ns ≡ false → k ≤ n → f n ≡ []) →
    ((ms : List ℕ) → Rises (k + 1) ms → ((n : ℕ) → has_number n ms ≡ false → k + 1 ≤ n → f n ≡ []) → flat_map f ms ≡ over g (k + 1) xs) →
    flat_map f ns ≡ over g k (x ∷ xs)
one_over g f x xs k [] here rises misses later =
    ap₂ ◌++◌ (sym (misses k refl (omega arith)) ∙ here) (later [] tt (λ n e le. misses n refl (omega (arith, le))))
one_over g f x xs k (m ∷ ns) here rises misses later = by (cases_order m k)
  where
    by : (m ≡ k) ⊎ ((m < k) ⊎ (k < m)) → flat_map f (m ∷ ns) ≡ over g k (x ∷ xs)
    by (inl same) =
        ap₂ ◌++◌ (ap f same ∙ here)
        (later ns (subst (λ n. Rises (n + 1) ns) same rises.1)
        (λ n e le. misses n (ap₂ ◌||◌ (ne_eqb n m (λ s. omega (arith, s, same, le))) e) (omega (arith, le))))
    by (inr (inl lt)) = absurd (omega (arith, lt, rises.0))
    by (inr (inr lt)) =
        later (m ∷ ns) (omega (arith, lt), rises.1) (λ n e le. misses n e (omega (arith, le)))
        ∙ ap (λ ys. ys ++ over g (k + 1) xs) (sym (misses k (above k (k + 1) (m ∷ ns) (omega arith) (omega (arith, lt), rises.1)) (omega arith)) ∙ here)

-- all items are gone over where nothing is made of those that aren't
gone_over : {X A : Type 0} (g : ℕ → X → List A) (f : ℕ → List A) (xs : List X) (k : ℕ) (ns : List ℕ) →
    ((i : ℕ) (x : X) → slice_get xs i ≡ Some x → f (i + k) ≡ g (i + k) x) → ((n : ℕ) → length xs + k ≤ n → f n ≡ []) →
    Rises k ns → ((n : ℕ) → has_number n ns ≡ false → k ≤ n → f n ≡ []) → flat_map f ns ≡ over g k xs
gone_over g f [] k ns at beyond rises misses = none_over f k ns rises (λ n le. beyond n (omega (arith, le)))
gone_over g f (x ∷ xs) k ns at beyond rises misses =
    one_over g f x xs k ns (subst (λ n. f n ≡ g n x) (omega arith) (at 0 x refl)) rises misses
    (λ ms up none. gone_over g f xs (k + 1) ms (λ i y e. subst (λ n. f n ≡ g n y) (omega arith) (at (suc i) y e)) (λ n le. beyond n (omega (arith, le))) up none)

found_at : {X Y : Type 0} (f : Option X → Y) (xs : List X) (i : ℕ) → length xs ≤ i → f (slice_get xs i) ≡ f None
found_at f [] i le = refl
found_at f (x ∷ xs) zero le = absurd (omega (arith, le))
found_at f (x ∷ xs) (suc i) le = found_at f xs i (omega (arith, le))

outputs_over : (n : ℕ) (rules : List Rule) (p : Path) → over (λ k (r : Rule). by_folder k r.outputs p) n rules ≡ outputs_from n rules p
outputs_over n [] p = refl
outputs_over n (r ∷ rules) p = ap (λ ms. by_folder n r.outputs p ++ ms) (outputs_over (n + 1) rules p)

members_over : (n : ℕ) (readings : List Reading) (folders : List Path) → over (λ k (r : Reading). by_folders k r.folders folders) n readings ≡ members_from n readings folders
members_over n [] folders = refl
members_over n (r ∷ readings) folders = ap (λ ms. by_folders n r.folders folders ++ ms) (members_over (n + 1) readings folders)

no_folders : (n : ℕ) (folders : List Path) → by_folders n [] folders ≡ []
no_folders n [] = refl
no_folders n (f ∷ folders) = no_folders n folders

pub all_outputs : (rules : List Rule) (index : Index) (p : Path) (ns : List ℕ) → IsIndex rules index → Rises 0 ns → ((n : ℕ) → has_number n ns ≡ tries index p n) →
    flat_map (λ n. by_folder n (outputs_at rules n) p) ns ≡ outputs_from 0 rules p
all_outputs rules index p ns is rises has =
    gone_over (λ k (r : Rule). by_folder k r.outputs p) (λ n. by_folder n (outputs_at rules n) p) rules 0 ns
    (λ i r e. ap (λ o. by_folder (i + 0) (outputs_in o) p) (ap (slice_get rules) (omega arith) ∙ e))
    (λ n le. found_at (λ o. by_folder n (outputs_in o) p) rules n (omega (arith, le)))
    rises (λ n e le. is.misses p n (sym (has n) ∙ e))
    ∙ outputs_over 0 rules p

pub all_members : (readings : List Reading) (folders : List Path) (ns : List ℕ) → AreFolders readings ns →
    flat_map (λ n. by_folders n (directories_at readings n) folders) ns ≡ members_from 0 readings folders
all_members readings folders ns are =
    gone_over (λ k (r : Reading). by_folders k r.folders folders) (λ n. by_folders n (directories_at readings n) folders) readings 0 ns
    (λ i r e. ap (λ o. by_folders (i + 0) (directories_in o) folders) (ap (slice_get readings) (omega arith) ∙ e))
    (λ n le. found_at (λ o. by_folders n (directories_in o) folders) readings n (omega (arith, le)) ∙ no_folders n folders)
    are.rises (λ n e le. ap (λ ss. by_folders n ss folders) (are.misses n e) ∙ no_folders n folders)
    ∙ members_over 0 readings folders

-- ---- the least of two

or_second : (a b c : Bool) → (b || (a || c)) ≡ (a || (b || c))
or_second true true c = refl
or_second true false c = refl
or_second false b c = refl

pub first_least : (n : ℕ) (ones other : List ℕ) → ((from : ℕ) → Rises from other → Rises n other) → IsLeast n (n ∷ ones) other ones other
first_least n ones other above = record {
  rises = λ from a b. (a.0, rises_from (n + 1) n ones (omega arith) a.1, above from b);
  has = λ m. or_assoc (m == n) (has_number m ones) (has_number m other);
  fewer = omega arith;
}

pub second_least : (n : ℕ) (one others : List ℕ) → ((from : ℕ) → Rises from one → Rises n one) → IsLeast n one (n ∷ others) one others
second_least n one others above = record {
  rises = λ from a b. (b.0, above from a, rises_from (n + 1) n others (omega arith) b.1);
  has = λ m. or_second (m == n) (has_number m one) (has_number m others);
  fewer = omega arith;
}

pub below_head : (n m : ℕ) (ms : List ℕ) → n ≤ m → (from : ℕ) → Rises from (m ∷ ms) → Rises n (m ∷ ms)
below_head n m ms le from h = (le, h.1)

pub first_before : (n m : ℕ) (one other ones others : List ℕ) → one ≡ n ∷ ones → other ≡ m ∷ others → n ≤ m → IsLeast n one other ones other
first_before n m one other ones others is are le =
    subst (λ (ns : List ℕ). IsLeast n ns other ones other) (sym is)
    (subst (λ (ms : List ℕ). IsLeast n (n ∷ ones) ms ones ms) (sym are) (first_least n ones (m ∷ others) (below_head n m others le)))

pub second_before : (n m : ℕ) (one other ones others : List ℕ) → one ≡ n ∷ ones → other ≡ m ∷ others → m ≤ n → IsLeast m one other one others
second_before n m one other ones others is are le =
    subst (λ (ms : List ℕ). IsLeast m one ms one others) (sym are)
    (subst (λ (ns : List ℕ). IsLeast m ns (m ∷ others) ns others) (sym is) (second_least m (n ∷ ones) others (below_head m n ones le)))

none_of : (ns : List ℕ) → length ns ≡ 0 → (n from : ℕ) → Rises from ns → Rises n ns
none_of [] none n from h = tt
none_of (m ∷ ns) none n from h = absurd (omega (arith, none))

pub first_alone : (n : ℕ) (one other ones : List ℕ) → one ≡ n ∷ ones → length other ≡ 0 → IsLeast n one other ones other
first_alone n one other ones is none =
    subst (λ (ns : List ℕ). IsLeast n ns other ones other) (sym is) (first_least n ones other (none_of other none n))

pub second_alone : (n : ℕ) (one other others : List ℕ) → length one ≡ 0 → other ≡ n ∷ others → IsLeast n one other one others
second_alone n one other others none is =
    subst (λ (ns : List ℕ). IsLeast n one ns one others) (sym is) (second_least n one others (none_of one none n))

-- ---- no rule at a number

no_more : {A : Type 0} (xs : List A) → xs ≡ xs ++ []
no_more [] = refl
no_more (x ∷ xs) = ap (λ ys. x ∷ ys) (no_more xs)

pub no_output_more : (found : List Making) (n : ℕ) (rules : List Rule) (p : Path) → false ≡ nat_lt n (length rules) → found ≡ found ++ by_folder n (outputs_at rules n) p
no_output_more found n rules p far = no_more found ∙ ap (λ ms. found ++ ms) (sym (found_at (λ o. by_folder n (outputs_in o) p) rules n (ltb-false n (length rules) (sym far))))

pub no_members_more : (found : List Making) (n : ℕ) (readings : List Reading) (folders : List Path) → false ≡ nat_lt n (length readings) →
    found ≡ found ++ by_folders n (directories_at readings n) folders
no_members_more found n readings folders far =
    no_more found ∙ ap (λ ms. found ++ ms) (sym (found_at (λ o. by_folders n (directories_in o) folders) readings n (ltb-false n (length readings) (sym far)) ∙ no_folders n folders))
