-- What a listing has.
use Rattle.std.proofs.Common.{◌≡◌, inl, inr, ℕ, Bool, true, false, ◌||◌, ◌&&◌, ◌==◌, not, List, [], ◌∷◌, ◌++◌, zero, suc, arith, map, refl, ap, sym, subst, ◌∙◌, Option, Some, None, bytes_eq, cond, string_bytes, String, true≢false}
use Rattle.std.specs.Prelude.{if◌then◌else◌, is_some, IsTrue, All, Contains}
use Rattle.std.specs.List.{list_any, flat_map, AllByRecursion}
use Rattle.std.specs.List.Sorted.{IsStrictlySortedBy}
use Rattle.std.specs.Str.{IsUtf8, is_utf8}
use Rattle.std.specs.Cmp.{tied_itself, nat_cmp_total}
use Rattle.std.specs.Cmp.Lexicographic.{slice_cmp}
use Rattle.std.specs.Map.{lookup}
use Rattle.std.specs.Ordering.{nat_cmp, ordering_then, is_eq}
use Rattle.std.specs.declared.alloc.Global.{Global}
use Rattle.std.specs.declared.cmp.Ordering.TheVariants.{Less}
use Rattle.std.proofs.lemmas.Bool.{eqb-true, eq-eqb, or_cases, or_right, not-true}
use Rattle.std.proofs.lemmas.List.{map-append, append-nil}
use Rattle.std.proofs.lemmas.Grind.{flat_map-append}
use Rattle.std.proofs.lemmas.List.Elements.{All-append, All-nil}
use Rattle.std.proofs.lemmas.List.Folds.{list_any-append}
use Rattle.std.proofs.lemmas.Map.Text.{is_eq-slice_cmp}
use Rattle.std.proofs.lemmas.Map.Views.{Contains-from_any}
use Rattle.std.proofs.lemmas.Str.{IsUtf8-from_is_utf8, is_utf8-from_IsUtf8}
use Rattle.std.proofs.lemmas.Option.{none-some, same_Some}
use Rattle.std.proofs.Math.Bool.{or-false}
use Rattle.smk_base.specs.Path.{is_under}
use Rattle.smk_base.proofs.Places.{same_place, place_itself, and_first, and_second}
use Rattle.smk_world.specs.declared.event.Node.{Node}
use Rattle.smk_world.specs.declared.event.Node.TheVariants.{Regular, Directory}
use Rattle.smk_world.specs.declared.event.NodeState.{NodeState}
use Rattle.smk_world.specs.declared.event.NodeState.TheVariants.{Owned, Known}
use Rattle.smk_world.specs.declared.event.Name.{Name}
use Rattle.smk_world.specs.declared.event.Listing.{Listing}
use Rattle.smk_world.specs.World.{World, IsRising}
use Rattle.smk_world.specs.Calls.{IsListing, ListingIs, in_folder, is_name, IsTextName, MayStand, Stands, Reads, is_directory}
use Rattle.smk_world_nodes.specs.Nodes.{node_at, keys_under, name_under, is_text, is_folder_there, entry_of, is_strange, names_of, strange_of, listing_at}
use Rattle.smk_world_nodes.specs.Steps.{seen, AgreesWith}
use Rattle.smk_world_nodes.specs.declared.nodes.Nodes.{Nodes}
use Rattle.smk_world_nodes.proofs.Changes.{none_listed, entry_texts, passing}
use Rattle.smk_base.proofs.Ranges.{is_between, between_is_under}

-- ## Texts

pub text_yes : (name t : List ℕ) → IsUtf8 name → list_any (λ b. b == 10) name ≡ false → t ≡ name → Some t ≡ (if is_text name then Some name else None)
text_yes name t utf8 none same =
    ap Some same ∙ ap (λ b. if b then Some name else None) (sym (ap (λ b. b && not (list_any (λ b. b == 10) name)) (is_utf8-from_IsUtf8 name utf8) ∙ ap not none))

pub text_no : (name : List ℕ) → ¬ (IsUtf8 name) → None ≡ (if is_text name then Some name else None)
text_no name never = go (is_utf8 name) refl
  where
    go : (b : Bool) → is_utf8 name ≡ b → None ≡ (if is_text name then Some name else None)
    go true e = absurd (never (IsUtf8-from_is_utf8 name e))
    go false e = sym (ap (λ b. if b && not (list_any (λ b. b == 10) name) then Some name else None) e)

text_name : (name : List ℕ) → is_text name ≡ true → IsTextName name
text_name name h = (IsUtf8-from_is_utf8 name (and_first (is_utf8 name) _ h), not-true _ (and_second (is_utf8 name) _ h))

text_test : (name : List ℕ) → IsTextName name → is_text name ≡ true
text_test name t = ap (λ b. b && not (list_any (λ b. b == 10) name)) (is_utf8-from_IsUtf8 name t.0) ∙ ap not t.1

no_text_test : (name : List ℕ) → ¬ (IsTextName name) → is_text name ≡ false
no_text_test name never = go (is_text name) refl
  where
    go : (b : Bool) → is_text name ≡ b → b ≡ false
    go true e = absurd (never (text_name name e))
    go false e = refl

no_text_name : (name : List ℕ) → is_text name ≡ false → ¬ (IsTextName name)
no_text_name name e t = true≢false (sym (text_test name t) ∙ e)

-- ## Names in a folder

pub key_is : (k p name : List ℕ) → name_under k p ≡ Some name → (k ≡ in_folder p name) × (is_name name ≡ true)
key_is [] p name h = absurd (none-some name h)
key_is (b ∷ k) [] name h = go (b == 47) refl (is_name k) refl h
  where
    go : (u : Bool) → (b == 47) ≡ u → (v : Bool) → is_name k ≡ v → (if u && v then Some k else None) ≡ Some name → ((b ∷ k) ≡ in_folder [] name) × (is_name name ≡ true)
    go true e true f is = ((λ i. eqb-true b 47 e i ∷ same_Some k name is i), ap is_name (sym (same_Some k name is)) ∙ f)
    go true e false f is = absurd (none-some name is)
    go false e v f is = absurd (none-some name is)
key_is (b ∷ k) (c ∷ p) name h = go (b == c) refl (λ is. key_is k p name is) h
  where
    go : (u : Bool) → (b == c) ≡ u → (name_under k p ≡ Some name → (k ≡ in_folder p name) × (is_name name ≡ true)) → (if u then name_under k p else None) ≡ Some name → ((b ∷ k) ≡ in_folder (c ∷ p) name) × (is_name name ≡ true)
    go true e ih is = let r = ih is in ((λ i. eqb-true b c e i ∷ r.0 i), r.1)
    go false e ih is = absurd (none-some name is)

pub name_is : (p name : List ℕ) → is_name name ≡ true → name_under (in_folder p name) p ≡ Some name
name_is [] name h = ap (λ b. if b then Some name else None) h
name_is (c ∷ p) name h = ap (λ b. if b then name_under (in_folder p name) p else None) (eq-eqb c c refl) ∙ name_is p name h

under_folder : (p name : List ℕ) → is_under (in_folder p name) p ≡ true
under_folder [] name = refl
under_folder (c ∷ p) name = ap (λ b. b && is_under (in_folder p name) p) (eq-eqb c c refl) ∙ under_folder p name

in_order : (p a b : List ℕ) → slice_cmp nat_cmp (in_folder p a) (in_folder p b) ≡ slice_cmp nat_cmp a b
in_order [] a b = ap (λ o. ordering_then o (slice_cmp nat_cmp a b)) (tied_itself nat_cmp_total 47)
in_order (c ∷ p) a b = ap (λ o. ordering_then o (slice_cmp nat_cmp (in_folder p a) (in_folder p b))) (tied_itself nat_cmp_total c) ∙ in_order p a b

-- ## The keys

listed_there : (q : List ℕ) (test : List ℕ → Bool) (es : List (String Global × Node)) → list_any (bytes_eq q) (entry_texts (passing test es)) ≡ true → is_some (lookup (λ k. is_eq (slice_cmp nat_cmp q (string_bytes k))) es) ≡ true
listed_there q test [] h = absurd (true≢false (sym h))
listed_there q test (e ∷ es) h = go (bytes_eq q (string_bytes e.0)) refl (test (string_bytes e.0)) (λ k. listed_there q test es k) h
  where
    same : (b : Bool) → bytes_eq q (string_bytes e.0) ≡ b → is_eq (slice_cmp nat_cmp q (string_bytes e.0)) ≡ b
    same b is = is_eq-slice_cmp q (string_bytes e.0) ∙ is

    go : (b : Bool) → bytes_eq q (string_bytes e.0) ≡ b → (t : Bool) → (list_any (bytes_eq q) (entry_texts (passing test es)) ≡ true → is_some (lookup (λ k. is_eq (slice_cmp nat_cmp q (string_bytes k))) es) ≡ true)
        → list_any (bytes_eq q) (entry_texts (cond t (e ∷ passing test es) (passing test es))) ≡ true
        → is_some (cond (is_eq (slice_cmp nat_cmp q (string_bytes e.0))) (Some e.1) (lookup (λ k. is_eq (slice_cmp nat_cmp q (string_bytes k))) es)) ≡ true
    go true is t ih k = ap (λ b. is_some (cond b (Some e.1) (lookup (λ k. is_eq (slice_cmp nat_cmp q (string_bytes k))) es))) (is_eq-slice_cmp q (string_bytes e.0) ∙ is)
    go false is true ih k = ap (λ b. is_some (cond b (Some e.1) (lookup (λ k. is_eq (slice_cmp nat_cmp q (string_bytes k))) es))) (is_eq-slice_cmp q (string_bytes e.0) ∙ is)
        ∙ ih (sym (ap (λ b. b || list_any (bytes_eq q) (entry_texts (passing test es))) is) ∙ k)
    go false is false ih k = ap (λ b. is_some (cond b (Some e.1) (lookup (λ k. is_eq (slice_cmp nat_cmp q (string_bytes k))) es))) (is_eq-slice_cmp q (string_bytes e.0) ∙ is) ∙ ih k

module _ (nodes : Nodes) (p : List ℕ) where
  key_there : (q : List ℕ) → list_any (bytes_eq q) (keys_under nodes p) ≡ true → is_some (node_at nodes q) ≡ true
  key_there q h = listed_there q (is_between p) nodes.nodes.entries h

  there_key : (q : List ℕ) → is_under q p ≡ true → is_some (node_at nodes q) ≡ true → list_any (bytes_eq q) (keys_under nodes p) ≡ true
  there_key q under there = go (list_any (bytes_eq q) (keys_under nodes p)) refl
    where
      go : (b : Bool) → list_any (bytes_eq q) (keys_under nodes p) ≡ b → b ≡ true
      go true e = refl
      go false e = absurd (true≢false (sym there ∙ ap is_some (none_listed (is_between p) q nodes.nodes.entries (between_is_under p q ∙ under) e)))

-- ## Walks over the keys

any_at : (f : List ℕ → Bool) (k : List ℕ) (ks : List (List ℕ)) → list_any (bytes_eq k) ks ≡ true → f k ≡ true → list_any f ks ≡ true
any_at f k [] h is = absurd (true≢false (sym h))
any_at f k (j ∷ ks) h is = elim (or_cases (bytes_eq k j) (list_any (bytes_eq k) ks) h) [
  | inl same ↦ ap (λ b. b || list_any f ks) (subst (λ x. f x ≡ true) (same_place k j same) is)
  | inr rest ↦ or_right (f j) (list_any f ks) (any_at f k ks rest is)
]

any_where : (f : List ℕ → Bool) (ks : List (List ℕ)) → list_any f ks ≡ true → (k : List ℕ) × ((list_any (bytes_eq k) ks ≡ true) × (f k ≡ true))
any_where f [] h = absurd (true≢false (sym h))
any_where f (j ∷ ks) h = elim (or_cases (f j) (list_any f ks) h) [
  | inl here ↦ (j, (ap (λ b. b || list_any (bytes_eq j) ks) (place_itself j), here))
  | inr rest ↦ let r = any_where f ks rest in (r.0, (or_right (bytes_eq r.0 j) (list_any (bytes_eq r.0) ks) r.1.0, r.1.1))
]

any_flat : (h : Name → Bool) (g : List ℕ → List Name) (ks : List (List ℕ)) → list_any h (flat_map g ks) ≡ list_any (λ k. list_any h (g k)) ks
any_flat h g [] = refl
any_flat h g (k ∷ ks) = list_any-append h (g k) (flat_map g ks) ∙ ap (λ b. list_any h (g k) || b) (any_flat h g ks)

any_names : (name : List ℕ) (ns : List Name) → list_any (bytes_eq name) (map (λ n. n.name) ns) ≡ list_any (λ n. bytes_eq name n.name) ns
any_names name [] = refl
any_names name (n ∷ ns) = ap (λ b. bytes_eq name n.name || b) (any_names name ns)

abbrev Above : List ℕ → List (List ℕ) → Type 0
Above k ps = AllByRecursion (λ y. slice_cmp nat_cmp k y ≡ Less) ps

abbrev entry : Nodes → List ℕ → List ℕ → List Name
entry nodes p k = entry_of (is_folder_there (node_at nodes k)) (name_under k p)

with_text : (b folder : Bool) (name other : List ℕ) (rest : List Name) → slice_cmp nat_cmp name other ≡ Less → Above name (map (λ n. n.name) rest) → Above name (map (λ n. n.name) ((if b then record { name = other; folder = folder } ∷ [] else []) ++ rest))
with_text true folder name other rest h ih = (h, ih)
with_text false folder name other rest h ih = ih

with_rising : (b folder : Bool) (name : List ℕ) (rest : List Name) → Above name (map (λ n. n.name) rest) → IsRising (map (λ n. n.name) rest) → IsRising (map (λ n. n.name) ((if b then record { name = name; folder = folder } ∷ [] else []) ++ rest))
unfolding IsStrictlySortedBy
with_rising true folder name rest h ih = (h, ih)
with_rising false folder name rest h ih = ih

module _ (nodes : Nodes) (p : List ℕ) where
  names_above : (k name : List ℕ) (ks : List (List ℕ)) → k ≡ in_folder p name → Above k ks → Above name (map (λ n. n.name) (names_of nodes p ks))
  names_above k name [] is all = tt
  names_above k name (j ∷ ks) is all = go (name_under j p) refl (names_above k name ks is all.1)
    where
      go : (o : Option (List ℕ)) → name_under j p ≡ o → Above name (map (λ n. n.name) (names_of nodes p ks)) → Above name (map (λ n. n.name) (entry_of (is_folder_there (node_at nodes j)) o ++ names_of nodes p ks))
      go None e ih = ih
      go (Some other) e ih = with_text (is_text other) (is_folder_there (node_at nodes j)) name other (names_of nodes p ks)
          (sym (in_order p name other) ∙ ap (λ x. slice_cmp nat_cmp x (in_folder p other)) (sym is) ∙ ap (slice_cmp nat_cmp k) (sym (key_is j p other e).0) ∙ all.0) ih

  names_rising : (ks : List (List ℕ)) → IsRising ks → IsRising (map (λ n. n.name) (names_of nodes p ks))
  unfolding IsStrictlySortedBy
  names_rising [] s = tt
  names_rising (k ∷ ks) s = go (name_under k p) refl (names_rising ks s.1)
    where
      go : (o : Option (List ℕ)) → name_under k p ≡ o → IsRising (map (λ n. n.name) (names_of nodes p ks)) → IsRising (map (λ n. n.name) (entry_of (is_folder_there (node_at nodes k)) o ++ names_of nodes p ks))
      go None e ih = ih
      go (Some name) e ih = with_rising (is_text name) (is_folder_there (node_at nodes k)) name (names_of nodes p ks) (names_above k name ks (key_is k p name e).0 s.0) ih

-- ## One key more

pub keys_more : (keys more : List (String Global)) (k : String Global) → more ≡ keys ++ k ∷ [] → map string_bytes more ≡ map string_bytes keys ++ string_bytes k ∷ []
keys_more keys more k is = ap (map string_bytes) is ∙ map-append string_bytes keys (k ∷ [])

pub names_step : (nodes : Nodes) (p : List ℕ) (keys more : List (List ℕ)) (k : List ℕ) (folder : Bool) (name : Option (List ℕ)) (old new : List Name)
    → more ≡ keys ++ k ∷ [] → folder ≡ is_folder_there (node_at nodes k) → name ≡ name_under k p → old ≡ names_of nodes p keys → new ≡ old ++ entry_of folder name → new ≡ names_of nodes p more
names_step nodes p keys more k folder name old new one is_folder is_name was now =
    now ∙ ap (λ o. o ++ entry_of folder name) was ∙ ap (λ n. names_of nodes p keys ++ entry_of folder n) is_name ∙ ap (λ f. names_of nodes p keys ++ entry_of f (name_under k p)) is_folder
    ∙ ap (λ e. names_of nodes p keys ++ e) (sym (append-nil (entry nodes p k))) ∙ sym (flat_map-append (entry nodes p) keys (k ∷ [])) ∙ ap (names_of nodes p) (sym one)

pub strange_step : (p : List ℕ) (keys more : List (List ℕ)) (k : List ℕ) (name : Option (List ℕ)) (old other new : Bool)
    → more ≡ keys ++ k ∷ [] → name ≡ name_under k p → old ≡ strange_of p keys → other ≡ is_strange name → new ≡ (old || other) → new ≡ strange_of p more
strange_step p keys more k name old other new one is_name was is now =
    now ∙ ap (λ o. o || other) was ∙ ap (λ o. strange_of p keys || o) (is ∙ ap is_strange is_name ∙ sym (or-false (is_strange (name_under k p))))
    ∙ sym (list_any-append (λ j. is_strange (name_under j p)) keys (k ∷ [])) ∙ ap (strange_of p) (sym one)

-- ## The listing

all_one : {X : Type 0} (P : X → Type 0) (x : X) → P x → All P (x ∷ [])
all_one P x h zero d lt = h
all_one P x h (suc k) d lt = absurd (omega arith)

folder_same : (n : Node) → is_directory n ≡ is_folder_there (Some n)
folder_same (Regular bytes time read_only) = refl
folder_same Directory = refl

may_stand : (s : NodeState) (m : Option Node) → seen m s ≡ m → is_some m ≡ true → MayStand (is_folder_there m) s
may_stand Owned m a h = tt
may_stand (Known None besides) m a h = absurd (true≢false (sym h ∙ ap is_some (sym a)))
may_stand (Known (Some n) besides) m a h = folder_same n ∙ ap is_folder_there a

stands_some : (s : NodeState) (m : Option Node) → seen m s ≡ m → Stands s → is_some m ≡ true
stands_some Owned m a h = absurd h
stands_some (Known None besides) m a h = absurd h
stands_some (Known (Some n) besides) m a h = ap is_some (sym a)

not_nothing : (s : NodeState) (m : Option Node) → seen m s ≡ m → is_some m ≡ true → ¬ (Reads None s)
not_nothing Owned m a there h = h
not_nothing (Known now besides) m a there h = true≢false (sym there ∙ ap is_some (sym a ∙ h))

abbrev IsEntry : World → List ℕ → Name → Type 0
IsEntry w p n = IsTrue (is_name n.name) × IsTextName n.name × MayStand n.folder (w.nodes (in_folder p n.name))

text_stands : (nodes : Nodes) (w : World) (p k name : List ℕ) → (k ≡ in_folder p name) × (is_name name ≡ true) → MayStand (is_folder_there (node_at nodes k)) (w.nodes k)
    → (b : Bool) → is_text name ≡ b → All (IsEntry w p) (if b then record { name = name; folder = is_folder_there (node_at nodes k) } ∷ [] else [])
text_stands nodes w p k name is may true e = all_one (IsEntry w p) _ (is.1, text_name name e, subst (λ q. MayStand (is_folder_there (node_at nodes k)) (w.nodes q)) is.0 may)
text_stands nodes w p k name is may false e = All-nil (IsEntry w p)

module _ (nodes : Nodes) (w : World) (p : List ℕ) (agrees : AgreesWith nodes w) where
  one_stands : (k : List ℕ) → is_some (node_at nodes k) ≡ true → All (IsEntry w p) (entry nodes p k)
  one_stands k there = go (name_under k p) refl
    where
      go : (o : Option (List ℕ)) → name_under k p ≡ o → All (IsEntry w p) (entry_of (is_folder_there (node_at nodes k)) o)
      go None e = All-nil (IsEntry w p)
      go (Some name) e = text_stands nodes w p k name (key_is k p name e) (may_stand (w.nodes k) (node_at nodes k) (agrees k) there) (is_text name) refl

  all_stand : (ks : List (List ℕ)) → ((q : List ℕ) → list_any (bytes_eq q) ks ≡ true → is_some (node_at nodes q) ≡ true) → All (IsEntry w p) (names_of nodes p ks)
  all_stand [] there = All-nil (IsEntry w p)
  all_stand (k ∷ ks) there = All-append (IsEntry w p) (entry nodes p k) (names_of nodes p ks)
      (one_stands k (there k (ap (λ b. b || list_any (bytes_eq k) ks) (place_itself k))))
      (all_stand ks (λ q h. there q (or_right (bytes_eq q k) (list_any (bytes_eq q) ks) h)))

  listed : (name : List ℕ) → is_name name ≡ true → Stands (w.nodes (in_folder p name)) → list_any (bytes_eq (in_folder p name)) (keys_under nodes p) ≡ true
  listed name is stands = there_key nodes p (in_folder p name) (under_folder p name) (stands_some (w.nodes (in_folder p name)) (node_at nodes (in_folder p name)) (agrees (in_folder p name)) stands)

  entry_has : (name : List ℕ) (folder : Bool) → is_text name ≡ true → list_any (λ (n : Name). bytes_eq name n.name) (entry_of folder (Some name)) ≡ true
  entry_has name folder text = ap (λ b. list_any (λ (n : Name). bytes_eq name n.name) (if b then record { name = name; folder = folder } ∷ [] else [])) text ∙ ap (λ b. b || false) (place_itself name)

  has_all : (name : List ℕ) → is_name name ≡ true → IsTextName name → Stands (w.nodes (in_folder p name)) → Contains (map (λ n. n.name) (names_of nodes p (keys_under nodes p))) name
  has_all name is text stands =
      let k = in_folder p name in
      let h : Name → Bool = λ n. bytes_eq name n.name in
      let here : list_any h (entry nodes p k) ≡ true = ap (λ o. list_any h (entry_of (is_folder_there (node_at nodes k)) o)) (name_is p name is) ∙ entry_has name (is_folder_there (node_at nodes k)) (text_test name text) in
      Contains-from_any same_place name _ (any_names name (names_of nodes p (keys_under nodes p)) ∙ any_flat h (entry nodes p) (keys_under nodes p) ∙ any_at (λ j. list_any h (entry nodes p j)) k (keys_under nodes p) (listed name is stands) here)

  strange_found : strange_of p (keys_under nodes p) ≡ true → (name : List ℕ) × (IsTrue (is_name name) × (¬ (IsTextName name)) × (¬ (Reads None (w.nodes (in_folder p name)))))
  strange_found h =
      let found = any_where (λ k. is_strange (name_under k p)) (keys_under nodes p) h in
      strange_key found.0 (key_there nodes p found.0 found.1.0) (name_under found.0 p) refl found.1.1
    where
      strange_key : (k : List ℕ) → is_some (node_at nodes k) ≡ true → (o : Option (List ℕ)) → name_under k p ≡ o → is_strange o ≡ true → (name : List ℕ) × (IsTrue (is_name name) × (¬ (IsTextName name)) × (¬ (Reads None (w.nodes (in_folder p name)))))
      strange_key k there None e f = absurd (true≢false (sym f))
      strange_key k there (Some name) e f =
          let is = key_is k p name e in
          (name, (is.1, no_text_name name (not-true (is_text name) f), subst (λ q. ¬ (Reads None (w.nodes q))) is.0 (not_nothing (w.nodes k) (node_at nodes k) (agrees k) there)))

  is_listing : IsRising (keys_under nodes p) → IsListing w p (record { there = true; names = names_of nodes p (keys_under nodes p); strange = strange_of p (keys_under nodes p) })
  is_listing rising = record {
    sorted = names_rising nodes p (keys_under nodes p) rising;
    stand = all_stand (keys_under nodes p) (key_there nodes p);
    all = λ name is text stands. has_all name is text stands;
    strange = λ name is never stands. any_at (λ k. is_strange (name_under k p)) (in_folder p name) (keys_under nodes p) (listed name is stands) (ap is_strange (name_is p name is) ∙ ap not (no_text_test name never));
    not_strange = strange_found;
  }

  pub listing_is : (node_at nodes p ≡ Some Directory → IsRising (keys_under nodes p)) → (listing : Listing) → listing ≡ listing_at (node_at nodes p) nodes p → ListingIs w p listing (w.nodes p)
  listing_is rising listing is = subst (λ l. ListingIs w p l (w.nodes p)) (sym is) (go (w.nodes p) (agrees p))
    where
      go : (s : NodeState) → seen (node_at nodes p) s ≡ node_at nodes p → ListingIs w p (listing_at (node_at nodes p) nodes p) s
      go Owned a = tt
      go (Known None besides) a = ap (λ m. listing_at m nodes p) (sym a)
      go (Known (Some (Regular bytes time read_only)) besides) a = ap (λ m. listing_at m nodes p) (sym a)
      go (Known (Some Directory) besides) a = subst (λ m. ((listing_at m nodes p).there ≡ true) × IsListing w p (listing_at m nodes p)) a (refl, is_listing (rising (sym a)))
