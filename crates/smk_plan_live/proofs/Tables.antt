-- What is known and was seen now, by a function of paths and as lists.
use Rattle.std.proofs.Common.{◌≡◌, Bool, true, false, cond, not, ◌&&◌, ◌||◌, List, [], ◌∷◌, ◌++◌, map, Option, Some, None, is_some, refl, sym, ap, subst, ◌∙◌, string_bytes, bytes_eq}
use Rattle.std.specs.Prelude.{if◌then◌else◌, String}
use Rattle.std.specs.Global.{Global}
use Rattle.std.specs.List.{list_any}
use Rattle.std.specs.Option.{option_or}
use Rattle.std.specs.Ordering.{is_eq, nat_cmp}
use Rattle.std.specs.Cmp.Lexicographic.{slice_cmp, nat_list_eq_equiv}
use Rattle.std.specs.BTreeMap.{get_by_text, keys}
use Rattle.std.specs.Map.{lookup, keys_of}
use Rattle.std.proofs.lemmas.Map.Text.{is_eq-slice_cmp}
use Rattle.std.proofs.lemmas.Bool.{or_parts}
use Rattle.std.proofs.lemmas.Option.{same_Some, none-some}
use Rattle.smk_base.specs.Path.{is_path}
use Rattle.smk_base.proofs.Places.{same_place}
use Rattle.smk_world.specs.World.{folders_above}
use Rattle.smk_world.specs.Trees.{Path, among}
use Rattle.smk_store.specs.declared.store.Entry.{Entry}
use Rattle.smk_store.specs.Images.{stands}
use Rattle.smk_store.specs.Stores.{Known, entry_of, is_covered_in}
use Rattle.smk_store.specs.Walking.{texts_of}
use Rattle.smk_plan.specs.declared.seen.Sight.{Sight}
use Rattle.smk_plan.specs.Sights.{sight_at}
use Rattle.smk_plan.specs.States.{test_some}
use Rattle.smk_plan_live.specs.declared.base.Base.{Base}
use Rattle.smk_plan_live.specs.declared.sites.Site.{Site}
use Rattle.smk_plan_live.specs.Now.{row_at, own_sight, seen_before, sight_now, entry_now, is_left, settled, settled_now, restored_now, known_one, known_table, seen_one, seen_table, output_names, known_now, seen_now}
use Rattle.smk_plan_states.proofs.Tests.{among_append}

-- ## Texts

pub same_bytes : (p : Path) → bytes_eq p p ≡ true
same_bytes p = nat_list_eq_equiv.refl p

pub flipped : (p q : Path) → bytes_eq p q ≡ bytes_eq q p
flipped p q = nat_list_eq_equiv.symm p q

-- ## Lists of what a function tells

entry_here : (x q : Path) (o : Option Entry) (rest : List Known) → bytes_eq x q ≡ true → (o ≡ None → entry_of rest q ≡ None) → entry_of (known_one x o ++ rest) q ≡ o
entry_here x q None rest e out = out refl
entry_here x q (Some y) rest e out = ap (λ (b : Bool). if b then Some y else entry_of rest q) e

entry_there : (x q : Path) (o : Option Entry) (rest : List Known) → bytes_eq x q ≡ false → entry_of (known_one x o ++ rest) q ≡ entry_of rest q
entry_there x q None rest e = refl
entry_there x q (Some y) rest e = ap (λ (b : Bool). if b then Some y else entry_of rest q) e

pub known_of : (f : Path → Option Entry) (qs : List Path) (q : Path) → (among qs q ≡ false → f q ≡ None) → entry_of (known_table f qs) q ≡ f q
known_of f [] q out = sym (out refl)
known_of f (x ∷ qs) q out = go (bytes_eq q x) refl (known_of f qs q)
  where
    go : (b : Bool) → bytes_eq q x ≡ b → ((among qs q ≡ false → f q ≡ None) → entry_of (known_table f qs) q ≡ f q) → entry_of (known_one x (f x) ++ known_table f qs) q ≡ f q
    go true e more =
        let is : x ≡ q = sym (same_place q x e) in
        entry_here x q (f x) (known_table f qs) (sym (flipped q x) ∙ e) (λ n. more (λ m. ap f (sym is) ∙ n) ∙ ap f (sym is) ∙ n) ∙ ap f is
    go false e more = entry_there x q (f x) (known_table f qs) (sym (flipped q x) ∙ e) ∙ more (λ n. out (ap (λ (b : Bool). b || among qs q) e ∙ n))

sight_here : (x q : Path) (o : Option Sight) (rest : List Sight) → ((s : Sight) → o ≡ Some s → s.path ≡ x) → bytes_eq x q ≡ true → (o ≡ None → sight_at rest q ≡ None) → sight_at (seen_one o ++ rest) q ≡ o
sight_here x q None rest own e out = out refl
sight_here x q (Some s) rest own e out = ap (λ (b : Bool). if b then Some s else sight_at rest q) (ap (λ (p : Path). bytes_eq p q) (own s refl) ∙ e)

sight_there : (x q : Path) (o : Option Sight) (rest : List Sight) → ((s : Sight) → o ≡ Some s → s.path ≡ x) → bytes_eq x q ≡ false → sight_at (seen_one o ++ rest) q ≡ sight_at rest q
sight_there x q None rest own e = refl
sight_there x q (Some s) rest own e = ap (λ (b : Bool). if b then Some s else sight_at rest q) (ap (λ (p : Path). bytes_eq p q) (own s refl) ∙ e)

pub sight_of : (f : Path → Option Sight) → ((q : Path) (s : Sight) → f q ≡ Some s → s.path ≡ q) → (qs : List Path) (q : Path) → (among qs q ≡ false → f q ≡ None) → sight_at (seen_table f qs) q ≡ f q
sight_of f own [] q out = sym (out refl)
sight_of f own (x ∷ qs) q out = go (bytes_eq q x) refl (sight_of f own qs q)
  where
    go : (b : Bool) → bytes_eq q x ≡ b → ((among qs q ≡ false → f q ≡ None) → sight_at (seen_table f qs) q ≡ f q) → sight_at (seen_one (f x) ++ seen_table f qs) q ≡ f q
    go true e more =
        let is : x ≡ q = sym (same_place q x e) in
        sight_here x q (f x) (seen_table f qs) (own x) (sym (flipped q x) ∙ e) (λ n. more (λ m. ap f (sym is) ∙ n) ∙ ap f (sym is) ∙ n) ∙ ap f is
    go false e more = sight_there x q (f x) (seen_table f qs) (own x) (sym (flipped q x) ∙ e) ∙ more (λ n. out (ap (λ (b : Bool). b || among qs q) e ∙ n))

-- ## What stands in no list

not_stored : (ks : List Known) (q : Path) → among (map (λ (k : Known). k.path) ks) q ≡ false → entry_of ks q ≡ None
not_stored [] q h = refl
not_stored (k ∷ ks) q h =
    ap (λ (b : Bool). if b then Some k.entry else entry_of ks q) (flipped k.path q ∙ (or_parts (bytes_eq q k.path) (among (map (λ (x : Known). x.path) ks) q) h).0)
    ∙ not_stored ks q (or_parts (bytes_eq q k.path) (among (map (λ (x : Known). x.path) ks) q) h).1

pub not_seen : (ss : List Sight) (q : Path) → among (map (λ (s : Sight). s.path) ss) q ≡ false → sight_at ss q ≡ None
not_seen [] q h = refl
not_seen (s ∷ ss) q h =
    ap (λ (b : Bool). if b then Some s else sight_at ss q) (flipped s.path q ∙ (or_parts (bytes_eq q s.path) (among (map (λ (x : Sight). x.path) ss) q) h).0)
    ∙ not_seen ss q (or_parts (bytes_eq q s.path) (among (map (λ (x : Sight). x.path) ss) q) h).1

no_key : {X : Type 0} (es : List (String Global × X)) (q : Path) → among (texts_of (keys_of es)) q ≡ false → lookup (λ (k : String Global). is_eq (slice_cmp nat_cmp q (string_bytes k))) es ≡ None
no_key [] q h = refl
no_key (e ∷ es) q h =
    ap (λ (b : Bool). cond b (Some e.1) (lookup (λ (k : String Global). is_eq (slice_cmp nat_cmp q (string_bytes k))) es))
    (is_eq-slice_cmp q (string_bytes e.0) ∙ (or_parts (bytes_eq q (string_bytes e.0)) (among (texts_of (keys_of es)) q) h).0)
    ∙ no_key es q (or_parts (bytes_eq q (string_bytes e.0)) (among (texts_of (keys_of es)) q) h).1

no_site : (b : Base) (q : Path) → among (output_names b) q ≡ false → get_by_text b.sites q ≡ None
no_site b q h = no_key b.sites.entries q h

-- ## What is known and was seen now

nothing_known : (b : Base) (q : Path) → among (output_names b ++ map (λ (k : Known). k.path) b.store) q ≡ false → settled_now b q ≡ None
nothing_known b q h =
    let stored = map (λ (k : Known). k.path) b.store in
    let both = sym (among_append (output_names b) stored q) ∙ h in
    let site = no_site b q (or_parts (among (output_names b) q) (among stored q) both).0 in
    let entry = not_stored b.store q (or_parts (among (output_names b) q) (among stored q) both).1 in
    ap (settled (restored_now b q)) (ap (λ (s : Option Site). row_at b.entries s (entry_of b.store q)) site ∙ entry)

pub known_is : (b : Base) (q : Path) → entry_of (known_now b) q ≡ settled_now b q
known_is b q = known_of (settled_now b) (output_names b ++ map (λ (k : Known). k.path) b.store) q (nothing_known b q)

nothing_seen : (b : Base) (q : Path) → among (output_names b ++ (texts_of (keys b.later) ++ map (λ (s : Sight). s.path) b.seen)) q ≡ false → sight_now b q ≡ None
nothing_seen b q h =
    let seen = map (λ (s : Sight). s.path) b.seen in
    let later = texts_of (keys b.later) in
    let both = sym (among_append (output_names b) (later ++ seen) q) ∙ h in
    let rest = sym (among_append later seen q) ∙ (or_parts (among (output_names b) q) (among (later ++ seen) q) both).1 in
    let site = no_site b q (or_parts (among (output_names b) q) (among (later ++ seen) q) both).0 in
    let late : get_by_text b.later q ≡ None = no_key b.later.entries q (or_parts (among later q) (among seen q) rest).0 in
    let sight = not_seen b.seen q (or_parts (among later q) (among seen q) rest).1 in
    ap (λ (s : Option Site). own_sight q (row_at b.sights s (seen_before b q))) site
    ∙ ap (λ (s : Option Sight). own_sight q (option_or s (sight_at b.seen q))) late
    ∙ ap (own_sight q) sight

own_named : (q : Path) (o : Option Sight) (s : Sight) → own_sight q o ≡ Some s → s.path ≡ q
own_named q None s e = absurd cc
own_named q (Some t) s e = go (bytes_eq t.path q) refl e
  where
    go : (b : Bool) → bytes_eq t.path q ≡ b → (if b then Some t else None) ≡ Some s → s.path ≡ q
    go true same is = let t≡s : t ≡ s = cc in ap (λ (x : Sight). x.path) (sym t≡s) ∙ same_place t.path q same
    go false same is = absurd cc

pub seen_is : (b : Base) (q : Path) → sight_at (seen_now b) q ≡ sight_now b q
seen_is b q =
    sight_of (sight_now b) (λ p s e. own_named p _ s e) (output_names b ++ (texts_of (keys b.later) ++ map (λ (s : Sight). s.path) b.seen)) q (nothing_seen b q)

-- the same of what covers a path
pub covered_is : (b : Base) (q : Path) → list_any (λ p. is_some (settled_now b p)) (q ∷ folders_above q) ≡ is_covered_in (known_now b) q
covered_is b q = λ i. list_any (λ p. is_some (sym (known_is b p) i)) (q ∷ folders_above q)

-- ## What is left of an entry

pub mark_left : (restored : Bool) (e : Entry) → (e.marked && not restored) ≡ test_some (λ (x : Entry). x.marked) (settled restored (Some e))
mark_left restored e = go (stands e.kept) (e.marked && not restored) e.noted
  where
    go : (s m n : Bool) → m ≡ test_some (λ (x : Entry). x.marked) (if s || (m || n) then Some (record { kept = e.kept; marked = m; noted = e.noted }) else None)
    go true m n = refl
    go false true n = refl
    go false false true = refl
    go false false false = refl

pub some_left : (restored : Bool) (e : Entry) → is_left restored e ≡ is_some {T = Entry} (settled restored (Some e))
some_left restored e = go (is_left restored e)
  where
    go : (b : Bool) → b ≡ is_some {T = Entry} (if b then Some (record { kept = e.kept; marked = e.marked && not restored; noted = e.noted }) else None)
    go true = refl
    go false = refl

-- a path isn't the empty text
pub never_empty : (p : Path) → is_path p ≡ true → bytes_eq p [] ≡ false
never_empty [] h = absurd cc
never_empty (b ∷ p) h = refl

pub own_seen : (ss : List Sight) (q : Path) → own_sight q (sight_at ss q) ≡ sight_at ss q
own_seen [] q = refl
own_seen (s ∷ ss) q = go (bytes_eq s.path q) refl (own_seen ss q)
  where
    go :
        (b : Bool) → bytes_eq s.path q ≡ b → own_sight q (sight_at ss q) ≡ sight_at ss q →
        own_sight q (if b then Some s else sight_at ss q) ≡ (if b then Some s else sight_at ss q)
    go true e more = ap (λ (b : Bool). if b then Some s else None) e
    go false e more = more

-- something is left of each entry that is known now
left_some : (restored : Bool) (o : Option Entry) (e : Entry) → settled restored o ≡ Some e → (stands e.kept || (e.marked || e.noted)) ≡ true
left_some restored None e h = absurd (none-some e h)
left_some restored (Some x) e h = go (is_left restored x) refl h
  where
    left : Entry
    left = record { kept = x.kept; marked = x.marked && not restored; noted = x.noted }

    go : (b : Bool) → is_left restored x ≡ b → (if b then Some left else None) ≡ Some e → (stands e.kept || (e.marked || e.noted)) ≡ true
    go true k is = subst (λ (y : Entry). (stands y.kept || (y.marked || y.noted)) ≡ true) (same_Some left e is) k
    go false k is = absurd (none-some e is)

pub left_now : (b : Base) (q : Path) (e : Entry) → entry_of (known_now b) q ≡ Some e → (stands e.kept || (e.marked || e.noted)) ≡ true
left_now b q e h = left_some (restored_now b q) (entry_now b q) e (sym (known_is b q) ∙ h)
