-- Paths in a folder, and lists of names and members.
use Rattle.std.proofs.Common.{◌≡◌, inl, inr, ℕ, zero, suc, ◌<◌, ◌≤◌, ◌==◌, Bool, true, false, ◌&&◌, ◌||◌, not, List, [], ◌∷◌, ◌++◌, map, length, drop, get_or, refl, sym, ap, subst, ◌∙◌, arith, bytes_eq, length-append, append_assoc}
use Rattle.std.specs.Prelude.{if◌then◌else◌, nat_le, All}
use Rattle.std.specs.List.{list_any, list_all, IsDistinct}
use Rattle.std.specs.Set.{is_member}
use Rattle.std.specs.Cmp.{IsEquivalence}
use Rattle.std.proofs.lemmas.List.{append_cancel_left}
use Rattle.std.proofs.lemmas.List.Elements.{All-head, All-tail}
use Rattle.std.proofs.lemmas.Map.Made.{length-le_from_is_member}
use Rattle.std.proofs.lemmas.Map.Keys.{IsDistinct-push}
use Rattle.smk_base.specs.Path.{is_at_or_under}
use Rattle.smk_base.proofs.Places.{and_first, and_second, same_place, same_flipped, place_itself}
use Rattle.smk_base.proofs.Under.{never_both, false_of_not, or_cases, or_first, or_second, both_true, under_folder, at_when_under, at_or_under_further}
use Rattle.smk_world.specs.World.{is_named, folders_above}
use Rattle.smk_world.specs.Calls.{in_folder, is_name}
use Rattle.smk_world.specs.Trees.{Path, Each, IsIn}
use Rattle.smk_record.specs.declared.record.Member.{Member}
use Rattle.smk_record.specs.Records.{is_member_folder}
use Rattle.smk_store_members.specs.Members.{member_places}
use Rattle.smk_store_members.specs.Steps.{names_of, is_found}
use Rattle.smk_store_members.proofs.Sets.{found_append, folder_append}

-- ## Lists

pub each_both : {A : Type 0} (P : A → Type 0) (xs ys : List A) → Each P xs → Each P ys → Each P (xs ++ ys)
each_both P [] ys h k = k
each_both P (x ∷ xs) ys h k = (h.0, each_both P xs ys h.1 k)

pub each_more : {A : Type 0} (P Q : A → Type 0) → ((x : A) → P x → Q x) → (xs : List A) → Each P xs → Each Q xs
each_more P Q more [] h = tt
each_more P Q more (x ∷ xs) h = (more x h.0, each_more P Q more xs h.1)

pub each_of_all : {A : Type 0} (P : A → Type 0) (xs : List A) → All P xs → Each P xs
each_of_all P [] h = tt
each_of_all P (x ∷ xs) h = (All-head P x xs h, each_of_all P xs (All-tail P x xs h))

pub in_first : {A : Type 0} (xs ys : List A) (x : A) → IsIn xs x → IsIn (xs ++ ys) x
in_first [] ys x h = absurd h
in_first (y ∷ xs) ys x (inl e) = inl e
in_first (y ∷ xs) ys x (inr h) = inr (in_first xs ys x h)

pub in_second : {A : Type 0} (xs ys : List A) (x : A) → IsIn ys x → IsIn (xs ++ ys) x
in_second [] ys x h = h
in_second (y ∷ xs) ys x h = inr (in_second xs ys x h)

pub places_append : (p : Path) (xs ys : List Member) → member_places p (xs ++ ys) ≡ member_places p xs ++ member_places p ys
places_append p [] ys = refl
places_append p (x ∷ xs) ys = ap (λ (l : List Path). in_folder p x.name ∷ l) (places_append p xs ys)

pub names_append : (xs ys : List Member) → names_of (xs ++ ys) ≡ names_of xs ++ names_of ys
names_append [] ys = refl
names_append (x ∷ xs) ys = ap (λ (l : List Path). x.name ∷ l) (names_append xs ys)

pub drop_more : {A : Type 0} (k : ℕ) (xs ys : List A) → k ≤ length xs → drop k (xs ++ ys) ≡ drop k xs ++ ys
drop_more zero xs ys le = refl
drop_more (suc k) [] ys le = absurd (omega arith)
drop_more (suc k) (x ∷ xs) ys le = drop_more k xs ys (omega arith)

pub list_all_each : {A : Type 0} (f : A → Bool) (xs : List A) → Each (λ (x : A). f x ≡ true) xs → list_all f xs ≡ true
list_all_each f [] h = refl
list_all_each f (x ∷ xs) h = both_true (f x) (list_all f xs) h.0 (list_all_each f xs h.1)

pub each_list_all : {A : Type 0} (f : A → Bool) (xs : List A) → list_all f xs ≡ true → Each (λ (x : A). f x ≡ true) xs
each_list_all f [] h = tt
each_list_all f (x ∷ xs) h = (and_first (f x) (list_all f xs) h, each_list_all f xs (and_second (f x) (list_all f xs) h))

pub each_map : {A B : Type 0} (P : B → Type 0) (f : A → B) (xs : List A) → Each (λ (x : A). P (f x)) xs → Each P (map f xs)
each_map P f [] h = tt
each_map P f (x ∷ xs) h = (h.0, each_map P f xs h.1)

pub each_unmap : {A B : Type 0} (P : B → Type 0) (f : A → B) (xs : List A) → Each P (map f xs) → Each (λ (x : A). P (f x)) xs
each_unmap P f [] h = tt
each_unmap P f (x ∷ xs) h = (h.0, each_unmap P f xs h.1)

pub each_zip : {A : Type 0} (P Q R : A → Type 0) → ((x : A) → P x → Q x → R x) → (xs : List A) → Each P xs → Each Q xs → Each R xs
each_zip P Q R more [] h k = tt
each_zip P Q R more (x ∷ xs) h k = (more x h.0 k.0, each_zip P Q R more xs h.1 k.1)

pub each_at : {A : Type 0} (P : A → Type 0) (xs : List A) (i : ℕ) (d : A) → i < length xs → Each P xs → P (get_or xs i d)
each_at P [] i d lt h = absurd (omega arith)
each_at P (x ∷ xs) zero d lt h = h.0
each_at P (x ∷ xs) (suc i) d lt h = each_at P xs i d (omega arith) h.1

-- ## What is found

-- what is so of each name that is found
pub each_name : (R : Path → Type 0) (xs : List Member) → ((q : Path) → is_found xs q ≡ true → R q) → Each (λ (m : Member). R m.name) xs
each_name R [] h = tt
each_name R (x ∷ xs) h =
    (h x.name (or_first (bytes_eq x.name x.name) (is_found xs x.name) (place_itself x.name)), each_name R xs (λ q k. h q (or_second (bytes_eq q x.name) (is_found xs q) k)))

-- a name of a folder's kind is a folder's
pub folder_in : (K : Path → Bool) (members : List Member) (q : Path) → Each (λ (m : Member). m.folder ≡ K m.name) members → is_found members q ≡ true → K q ≡ true → is_member_folder members q ≡ true
folder_in K [] q each h k = absurd (never_both false h refl)
folder_in K (m ∷ members) q each h k =
    elim (or_cases (bytes_eq q m.name) (is_found members q) h) [
      | inl e ↦ or_first (m.folder && bytes_eq m.name q) (is_member_folder members q)
          (both_true m.folder (bytes_eq m.name q) (each.0 ∙ ap K (sym (same_place q m.name e)) ∙ k) (same_flipped m.name q ∙ e))
      | inr there ↦ or_second (m.folder && bytes_eq m.name q) (is_member_folder members q) (folder_in K members q each.1 there k)
    ]

-- the member of this number is a folder
pub folder_there : (found : List Member) (i : ℕ) (d : Member) → i < length found → (get_or found i d).folder ≡ true → is_member_folder found (get_or found i d).name ≡ true
folder_there [] i d lt h = absurd (omega arith)
folder_there (m ∷ found) zero d lt h = or_first (m.folder && bytes_eq m.name m.name) (is_member_folder found m.name) (both_true m.folder (bytes_eq m.name m.name) h (place_itself m.name))
folder_there (m ∷ found) (suc i) d lt h =
    or_second (m.folder && bytes_eq m.name (get_or found i d).name) (is_member_folder found (get_or found i d).name) (folder_there found i d (omega arith) h)

-- the member of this name
pub found_at : (P : Member → Type 0) (found : List Member) (q : Path) → is_found found q ≡ true → Each P found → (m : Member) × P m × (m.name ≡ q)
found_at P [] q h each = absurd (never_both false h refl)
found_at P (m ∷ found) q h each =
    elim (or_cases (bytes_eq q m.name) (is_found found q) h) [
      | inl e ↦ (m, each.0, sym (same_place q m.name e))
      | inr there ↦ found_at P found q there each.1
    ]

pub folder_at : (P : Member → Type 0) (found : List Member) (q : Path) → is_member_folder found q ≡ true → Each P found → (m : Member) × P m × (m.name ≡ q) × (m.folder ≡ true)
folder_at P [] q h each = absurd (never_both false h refl)
folder_at P (m ∷ found) q h each =
    elim (or_cases (m.folder && bytes_eq m.name q) (is_member_folder found q) h) [
      | inl e ↦ (m, each.0, same_place m.name q (and_second m.folder (bytes_eq m.name q) e), and_first m.folder (bytes_eq m.name q) e)
      | inr there ↦ folder_at P found q there each.1
    ]

pub folder_found : (found : List Member) (q : Path) → is_member_folder found q ≡ true → is_found found q ≡ true
folder_found [] q h = h
folder_found (m ∷ found) q h =
    elim (or_cases (m.folder && bytes_eq m.name q) (is_member_folder found q) h) [
      | inl e ↦ or_first (bytes_eq q m.name) (is_found found q) (same_flipped q m.name ∙ and_second m.folder (bytes_eq m.name q) e)
      | inr there ↦ or_second (bytes_eq q m.name) (is_found found q) (folder_found found q there)
    ]

pub found_more : (found more : List Member) (q : Path) → is_found found q ≡ true → is_found (found ++ more) q ≡ true
found_more found more q h = found_append q found more ∙ or_first (is_found found q) (is_found more q) h

pub folder_more : (found more : List Member) (q : Path) → is_member_folder found q ≡ true → is_member_folder (found ++ more) q ≡ true
folder_more found more q h = folder_append q found more ∙ or_first (is_member_folder found q) (is_member_folder more q) h

pub place_found : (p : Path) (found : List Member) (t : Path) → is_found found t ≡ true → IsIn (member_places p found) (in_folder p t)
place_found p [] t h = absurd (never_both false h refl)
place_found p (m ∷ found) t h =
    elim (or_cases (bytes_eq t m.name) (is_found found t) h) [
      | inl e ↦ inl (ap (in_folder p) (same_place t m.name e))
      | inr there ↦ inr (place_found p found t there)
    ]

-- ## Paths in a folder

pub same_in : (p a b : Path) → in_folder p a ≡ in_folder p b → a ≡ b
same_in p a b e = tail (append_cancel_left p (47 ∷ a) (47 ∷ b) e)
  where
    tail : {x y : Path} → 47 ∷ x ≡ 47 ∷ y → x ≡ y
    tail h = cc

pub never_in_itself : (p a : Path) → in_folder p a ≡ p → ⊥
never_in_itself p a e = absurd (omega (arith, ap length e, length-append p (47 ∷ a)))

pub is_in_places : (p : Path) (members : List Member) (t : Path) → IsIn (member_places p members) (in_folder p t) → is_found members t ≡ true
is_in_places p [] t h = absurd h
is_in_places p (m ∷ members) t (inl e) = or_first (bytes_eq t m.name) (is_found members t) (ap (bytes_eq t) (sym (same_in p t m.name e)) ∙ place_itself t)
is_in_places p (m ∷ members) t (inr h) = or_second (bytes_eq t m.name) (is_found members t) (is_in_places p members t h)

pub in_it : (p name : Path) → is_at_or_under (in_folder p name) p ≡ true
in_it p name = at_when_under (in_folder p name) p (under_folder p name)

pub in_it_too : (p g name : Path) → is_at_or_under g p ≡ true → is_at_or_under (in_folder g name) p ≡ true
in_it_too p g name h = at_or_under_further (in_folder g name) g p (in_it g name) h

-- the place of a name after the front
pub front_place : (p f name : Path) → in_folder (in_folder p f) name ≡ in_folder p ((f ++ 47 ∷ []) ++ name)
front_place p f name = append_assoc p (47 ∷ f) (47 ∷ name) ∙ ap (λ (t : Path). p ++ 47 ∷ t) (sym (append_assoc f (47 ∷ []) name))

-- ## The folders above a name

flat_above : (name : Path) → list_any (λ (b : ℕ). b == 47) name ≡ false → folders_above name ≡ []
flat_above [] h = refl
flat_above (b ∷ name) h =
    let here : (b == 47) ≡ false = first (b == 47) (list_any (λ (x : ℕ). x == 47) name) h in
    let later : list_any (λ (x : ℕ). x == 47) name ≡ false = second (b == 47) (list_any (λ (x : ℕ). x == 47) name) h in
    ap (λ (v : Bool). if v then [] ∷ map (λ (q : Path). b ∷ q) (folders_above name) else map (λ (q : Path). b ∷ q) (folders_above name)) here
    ∙ ap (map (λ (q : Path). b ∷ q)) (flat_above name later)
  where
    first : (x y : Bool) → (x || y) ≡ false → x ≡ false
    first true y k = k
    first false y k = refl

    second : (x y : Bool) → (x || y) ≡ false → y ≡ false
    second true y k = absurd (never_both true refl k)
    second false y k = k

abbrev above_by : ℕ → List Path → Bool → List Path
above_by b above slash = if slash then [] ∷ map (λ (q : Path). b ∷ q) above else map (λ (q : Path). b ∷ q) above

map_last : (b : ℕ) (xs : List Path) (x : Path) → map (λ (q : Path). b ∷ q) (xs ++ x ∷ []) ≡ map (λ (q : Path). b ∷ q) xs ++ (b ∷ x) ∷ []
map_last b [] x = refl
map_last b (y ∷ xs) x = ap (λ (l : List Path). (b ∷ y) ∷ l) (map_last b xs x)

above_by_last : (b : ℕ) (above : List Path) (x : Path) (slash : Bool) → above_by b (above ++ x ∷ []) slash ≡ above_by b above slash ++ (b ∷ x) ∷ []
above_by_last b above x true = ap (λ (l : List Path). [] ∷ l) (map_last b above x)
above_by_last b above x false = map_last b above x

above_deeper : (f name : Path) → list_any (λ (b : ℕ). b == 47) name ≡ false → folders_above (f ++ 47 ∷ name) ≡ folders_above f ++ f ∷ []
above_deeper [] name h = ap (λ (l : List Path). [] ∷ map (λ (q : Path). 47 ∷ q) l) (flat_above name h)
above_deeper (b ∷ f) name h =
    ap (λ (l : List Path). above_by b l (b == 47)) (above_deeper f name h) ∙ above_by_last b (folders_above f) f (b == 47)

name_flat : (name : Path) → is_name name ≡ true → list_any (λ (b : ℕ). b == 47) name ≡ false
name_flat name h = false_of_not (list_any (λ (b : ℕ). b == 47) name) (and_second (nat_le 1 (length name)) (not (list_any (λ (b : ℕ). b == 47) name)) h)

pub above_none : (name : Path) → is_name name ≡ true → folders_above name ≡ []
above_none name h = flat_above name (name_flat name h)

pub above_front : (f name : Path) → is_name name ≡ true → folders_above ((f ++ 47 ∷ []) ++ name) ≡ folders_above f ++ f ∷ []
above_front f name h = ap folders_above (append_assoc f (47 ∷ []) name) ∙ above_deeper f name (name_flat name h)

-- ## Counting

pub bytes_laws : IsEquivalence bytes_eq
bytes_laws = record { refl = place_itself; symm = same_flipped; congr = λ x y z e. ap (λ (t : Path). bytes_eq t z) (same_place x y e) }

pub names_len : (zs : List Member) → length (names_of zs) ≡ length zs
names_len [] = refl
names_len (z ∷ zs) = ap (λ (n : ℕ). suc n) (names_len zs)

-- distinct names that are all among the others are no more than those
pub few_names : (xs ys : List Member) → IsDistinct bytes_eq (names_of xs) → ((q : Path) → is_found xs q ≡ true → is_found ys q ≡ true) → length xs ≤ length ys
few_names xs ys distinct among =
    subst (λ (n : ℕ). n ≤ length ys) (names_len xs) (subst (λ (n : ℕ). length (names_of xs) ≤ n) (names_len ys)
    (length-le_from_is_member bytes_laws (names_of xs) (names_of ys) distinct (λ q h. named_member q ys (among q (member_named q xs h)))))
  where
    named_member : (q : Path) (zs : List Member) → is_found zs q ≡ true → is_member bytes_eq (names_of zs) q ≡ true
    named_member q [] h = h
    named_member q (z ∷ zs) h = elim (or_cases (bytes_eq q z.name) (is_found zs q) h) [
      | inl e ↦ or_first (bytes_eq q z.name) (is_member bytes_eq (names_of zs) q) e
      | inr there ↦ or_second (bytes_eq q z.name) (is_member bytes_eq (names_of zs) q) (named_member q zs there)
    ]

    member_named : (q : Path) (zs : List Member) → is_member bytes_eq (names_of zs) q ≡ true → is_found zs q ≡ true
    member_named q [] h = h
    member_named q (z ∷ zs) h = elim (or_cases (bytes_eq q z.name) (is_member bytes_eq (names_of zs) q) h) [
      | inl e ↦ or_first (bytes_eq q z.name) (is_found zs q) e
      | inr there ↦ or_second (bytes_eq q z.name) (is_found zs q) (member_named q zs there)
    ]

named_any : (q : Path) (names : List Path) → is_named q names ≡ list_any (bytes_eq q) names
named_any q [] = refl
named_any q (n ∷ names) = ap (λ (b : Bool). bytes_eq q n || b) (named_any q names)

-- a name that isn't among them
pub apart_more : (found : List Member) (m : Member) → IsDistinct bytes_eq (names_of found) → is_found found m.name ≡ false → IsDistinct bytes_eq (names_of (found ++ m ∷ []))
apart_more found m distinct fresh =
    subst (IsDistinct bytes_eq) (sym (names_append found (m ∷ [])))
    (IsDistinct-push bytes_laws (names_of found) m.name distinct (sym (named_any m.name (names_of found)) ∙ fresh))
