-- The sets of names beside what is found.
use Rattle.std.proofs.Common.{◌≡◌, inl, inr, ℕ, ◌<◌, Bool, true, ◌&&◌, ◌||◌, List, [], ◌∷◌, ◌++◌, length, refl, sym, ap, subst, ◌∙◌, arith, bytes_eq, length-append}
use Rattle.std.specs.Prelude.{String, string_bytes, if◌then◌else◌, Some, None, Result, Ok, Err, OnOk}
use Rattle.std.specs.Global.{Global}
use Rattle.std.specs.BTreeSet.{BTreeSet, contains_text}
use Rattle.std.specs.Cmp.Lexicographic.{slice_cmp}
use Rattle.std.specs.Ordering.{nat_cmp, is_eq}
use Rattle.std.specs.declared.cmp.Ordering.{Ordering}
use Rattle.std.specs.declared.cmp.Ordering.TheVariants.{Less}
use Rattle.std.specs.List.{AllByRecursion, IsDistinct}
use Rattle.std.specs.List.Sorted.{IsStrictlySortedBy}
use Rattle.std.specs.Str.{IsUtf8}
use Rattle.std.specs.String.{string_cmp}
use Rattle.std.proofs.lemmas.List.Folds.{list_any-append}
use Rattle.std.proofs.lemmas.Map.Keys.{IsDistinct-from_sorted}
use Rattle.std.proofs.lemmas.Map.Text.{is_eq-slice_cmp}
use Rattle.std.proofs.Math.Bool.{or_comm, or-false, or_assoc}
use Rattle.std.proofs.lemmas.Bool.{and_from}
use Rattle.smk_base.specs.Path.{is_path}
use Rattle.smk_base.proofs.Places.{same_flipped, same_place, place_itself}
use Rattle.smk_base.proofs.Under.{or_cases, or_first, or_second, both_true}
use Rattle.smk_world.specs.World.{is_named}
use Rattle.smk_world.specs.Calls.{in_folder}
use Rattle.smk_world.specs.Trees.{Path, Each, is_path_text}
use Rattle.smk_record.proofs.Lists.{path_text}
use Rattle.smk_store.specs.Walking.{texts_of}
use Rattle.smk_store.proofs.Loads.{contains_named}
use Rattle.smk_record.specs.declared.record.Member.{Member}
use Rattle.smk_record.specs.Records.{is_member_folder, are_rising, is_less}
use Rattle.smk_store_members.specs.Steps.{member, names_of, is_found, is_member_name, AreKept, AreInOrder}

-- what is found among more members
pub found_append : (q : Path) (xs ys : List Member) → is_found (xs ++ ys) q ≡ (is_found xs q || is_found ys q)
found_append q [] ys = refl
found_append q (x ∷ xs) ys = ap (λ (b : Bool). bytes_eq q x.name || b) (found_append q xs ys) ∙ sym (or_assoc (bytes_eq q x.name) (is_found xs q) (is_found ys q))

pub folder_append : (q : Path) (xs ys : List Member) → is_member_folder (xs ++ ys) q ≡ (is_member_folder xs q || is_member_folder ys q)
folder_append q xs ys = list_any-append (λ (m : Member). m.folder && bytes_eq m.name q) xs ys

named_one : (q : Path) (found : List Member) (name : Path) (folder : Bool) → is_found (found ++ member folder name ∷ []) q ≡ (bytes_eq name q || is_found found q)
named_one q found name folder =
    found_append q found (member folder name ∷ []) ∙ ap (λ (b : Bool). is_found found q || b) (or-false (bytes_eq q name) ∙ same_flipped q name)
    ∙ or_comm (is_found found q) (bytes_eq name q)

folder_one : (q : Path) (found : List Member) (name : Path) (folder : Bool) → is_member_folder (found ++ member folder name ∷ []) q ≡ ((folder && bytes_eq name q) || is_member_folder found q)
folder_one q found name folder =
    folder_append q found (member folder name ∷ []) ∙ ap (λ (b : Bool). is_member_folder found q || b) (or-false (folder && bytes_eq name q))
    ∙ or_comm (is_member_folder found q) (folder && bytes_eq name q)

-- one more member
pub kept_more : (found new : List Member) (names folders names2 folders2 : BTreeSet (String Global)) (name : Path) (folder : Bool)
    → AreKept found names folders → length found < 20000 → is_path name ≡ true
    → ((q : Path) → contains_text names2 q ≡ (bytes_eq name q || contains_text names q))
    → ((q : Path) → contains_text folders2 q ≡ ((folder && bytes_eq name q) || contains_text folders q))
    → new ≡ found ++ member folder name ∷ [] → AreKept new names2 folders2
kept_more found new names folders names2 folders2 name folder kept few path named folded is =
    subst (λ (fs : List Member). AreKept fs names2 folders2) (sym is)
    (record {
      named = λ q. named q ∙ ap (λ (b : Bool). bytes_eq name q || b) (kept.named q) ∙ sym (named_one q found name folder);
      folded = λ q. folded q ∙ ap (λ (b : Bool). (folder && bytes_eq name q) || b) (kept.folded q) ∙ sym (folder_one q found name folder);
      paths = λ q h. elim (or_cases (bytes_eq name q) (contains_text names q) (sym (named q) ∙ h)) [
        | inl e ↦ subst (λ (t : Path). is_path t ≡ true) (same_place name q e) path
        | inr there ↦ kept.paths q there
      ];
      few = omega (arith, few, length-append found (member folder name ∷ []));
    })

pub on_ok : {T E : Type 0} (r : Result T E) (P Q : Type 0) → (P → Q) → OnOk r P → OnOk r Q
on_ok (Ok t) P Q more h = more h
on_ok (Err e) P Q more h = h

-- the name makes a path
pub member_is : (p text name : Path) → name ≡ text → is_path text ≡ true → IsUtf8 text → is_path (in_folder p name) ≡ true → Some name ≡ (if is_member_name p text then Some text else None)
member_is p text name same path utf8 whole =
    ap (λ (t : Path). Some t) same
    ∙ sym (ap (λ (b : Bool). if b then Some text else None)
    (both_true (is_path_text text) (is_path (in_folder p text)) (path_text text path utf8) (subst (λ (t : Path). is_path (in_folder p t) ≡ true) same whole)))

-- ## The names in order

named_there : (text : Path) (before rest : List Path) → is_named text (before ++ text ∷ rest) ≡ true
named_there text [] rest = or_first (bytes_eq text text) (is_named text rest) (place_itself text)
named_there text (d ∷ before) rest = or_second (bytes_eq text d) (is_named text (before ++ text ∷ rest)) (named_there text before rest)

-- a text of the set is a path
pub text_path : (found : List Member) (names folders : BTreeSet (String Global)) (before : List Path) (ts rest : List (String Global)) (t : String Global) (text : Path)
    → AreKept found names folders → before ++ texts_of ts ≡ texts_of names.keys → ts ≡ t ∷ rest → text ≡ string_bytes t → is_path text ≡ true
text_path found names folders before ts rest t text kept whole at is =
    subst (λ (q : Path). is_path q ≡ true) (sym is)
    (kept.paths (string_bytes t)
    (contains_named (string_bytes t) names.keys ∙ ap (is_named (string_bytes t)) (sym whole ∙ ap (λ (l : List (String Global)). before ++ texts_of l) at)
    ∙ named_there (string_bytes t) before (texts_of rest)))

names_append : (xs ys : List Member) → names_of (xs ++ ys) ≡ names_of xs ++ names_of ys
names_append [] ys = refl
names_append (x ∷ xs) ys = ap (λ (l : List Path). x.name ∷ l) (names_append xs ys)

append_one : (xs : List Path) (y : Path) (zs : List Path) → (xs ++ y ∷ []) ++ zs ≡ xs ++ y ∷ zs
append_one [] y zs = refl
append_one (x ∷ xs) y zs = ap (λ (l : List Path). x ∷ l) (append_one xs y zs)

-- one text further
pub order_next : (members new : List Member) (m : Member) (all : List Path) (ts rest : List (String Global)) (t : String Global)
    → names_of members ++ texts_of ts ≡ all → ts ≡ t ∷ rest → m.name ≡ string_bytes t → new ≡ members ++ m ∷ [] → names_of new ++ texts_of rest ≡ all
order_next members new m all ts rest t whole at is pushed =
    ap (λ (l : List Member). names_of l ++ texts_of rest) pushed ∙ ap (λ (l : List Path). l ++ texts_of rest) (names_append members (m ∷ []))
    ∙ append_one (names_of members) m.name (texts_of rest) ∙ ap (λ (q : Path). names_of members ++ q ∷ texts_of rest) is
    ∙ ap (λ (l : List (String Global)). names_of members ++ texts_of l) (sym at) ∙ whole

each_push : {A : Type 0} (P : A → Type 0) (xs : List A) (x : A) → Each P xs → P x → Each P (xs ++ x ∷ [])
each_push P [] x h p = (p, tt)
each_push P (y ∷ xs) x h p = (h.0, each_push P xs x h.1 p)

pub kinds_next : (found members new : List Member) (names folders : BTreeSet (String Global)) (m : Member) (t : List ℕ)
    → AreKept found names folders → Each (λ (m : Member). m.folder ≡ is_member_folder found m.name) members → m.name ≡ t → m.folder ≡ contains_text folders t → new ≡ members ++ m ∷ []
    → Each (λ (m : Member). m.folder ≡ is_member_folder found m.name) new
kinds_next found members new names folders m t kept before is kind pushed =
    subst (Each (λ (m : Member). m.folder ≡ is_member_folder found m.name)) (sym pushed)
    (each_push (λ (m : Member). m.folder ≡ is_member_folder found m.name) members m before (kind ∙ kept.folded t ∙ ap (is_member_folder found) (sym is)))

less_is : (o : Ordering) → o ≡ Less → is_less o ≡ true
less_is o h = ap is_less h

above_texts : (k : String Global) (keys : List (String Global)) → AllByRecursion (λ y. string_cmp k y ≡ Less) keys → AllByRecursion (λ y. slice_cmp nat_cmp (string_bytes k) y ≡ Less) (texts_of keys)
above_texts k [] s = tt
above_texts k (x ∷ keys) s = (s.0, above_texts k keys s.1)

sorted_texts : (keys : List (String Global)) → IsStrictlySortedBy string_cmp keys → IsStrictlySortedBy (slice_cmp nat_cmp) (texts_of keys)
unfolding IsStrictlySortedBy
sorted_texts [] s = tt
sorted_texts (k ∷ keys) s = (above_texts k keys s.0, sorted_texts keys s.1)

same_test : (λ (x : Path) (y : Path). is_eq (slice_cmp nat_cmp x y)) ≡ bytes_eq
same_test = λ i. λ x y. is_eq-slice_cmp x y i

apart_texts : (keys : List (String Global)) → IsStrictlySortedBy string_cmp keys → IsDistinct bytes_eq (texts_of keys)
apart_texts keys s = subst (λ (e : Path → Path → Bool). IsDistinct e (texts_of keys)) same_test (IsDistinct-from_sorted (slice_cmp nat_cmp) (texts_of keys) (sorted_texts keys s))

rising_texts : (ts : List (String Global)) → IsStrictlySortedBy string_cmp ts → are_rising (texts_of ts) ≡ true
unfolding IsStrictlySortedBy
rising_texts [] s = refl
rising_texts (p ∷ []) s = refl
rising_texts (p ∷ (q ∷ rest)) s =
    and_from (is_less (slice_cmp nat_cmp (string_bytes p) (string_bytes q))) (are_rising (texts_of (q ∷ rest))) (less_is (slice_cmp nat_cmp (string_bytes p) (string_bytes q)) s.0.0) (rising_texts (q ∷ rest) s.1)

all_named : (members : List Member) (ts : List (String Global)) (all : List Path) → ts ≡ [] → names_of members ++ texts_of ts ≡ all → names_of members ≡ all
all_named members ts all none whole = sym (end (names_of members)) ∙ ap (λ (l : List (String Global)). names_of members ++ texts_of l) (sym none) ∙ whole
  where
    end : (xs : List Path) → xs ++ [] ≡ xs
    end [] = refl
    end (x ∷ xs) = ap (λ (l : List Path). x ∷ l) (end xs)

-- all of them
pub ordered : (found members : List Member) (names folders : BTreeSet (String Global)) (ts : List (String Global))
    → AreKept found names folders → IsStrictlySortedBy string_cmp names.keys → ts ≡ [] → names_of members ++ texts_of ts ≡ texts_of names.keys
    → Each (λ (m : Member). m.folder ≡ is_member_folder found m.name) members → AreInOrder found members
ordered found members names folders ts kept sorted none whole kinds =
    let is : names_of members ≡ texts_of names.keys = all_named members ts (texts_of names.keys) none whole in
    record {
      rising = ap are_rising is ∙ rising_texts names.keys sorted;
      same = λ q. ap (is_named q) is ∙ sym (contains_named q names.keys) ∙ kept.named q;
      kinds = kinds;
      apart = subst (IsDistinct bytes_eq) (sym is) (apart_texts names.keys sorted);
    }
