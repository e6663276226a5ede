-- Paths that are gathered.
use Rattle.std.proofs.Common.{◌≡◌, ℕ, ◌+◌, ◌<◌, ◌≤◌, true, List, [], ◌∷◌, ◌++◌, length, take, get_or, refl, sym, ap, subst, ◌∙◌, append-nil, bytes_eq}
use Rattle.std.specs.Prelude.{String, string_bytes}
use Rattle.std.specs.Global.{Global}
use Rattle.std.specs.BTreeSet.{contains_text}
use Rattle.std.specs.BTreeSet as sorted
use Rattle.std.specs.Cmp.Lexicographic.{slice_cmp}
use Rattle.std.specs.Ordering.{nat_cmp}
use Rattle.std.specs.String.{string_cmp}
use Rattle.std.specs.List.{flat_map}
use Rattle.std.proofs.lemmas.List.{take_all}
use Rattle.smk_world.proofs.Devices.{next}
use Rattle.smk_base.proofs.Places.{place_itself}
use Rattle.smk_base.proofs.Under.{or_first, or_second}
use Rattle.smk_world.specs.declared.recipe.Out.{Out}
use Rattle.smk_world.specs.Trees.{Path, Each, is_path_text}
use Rattle.smk_store.proofs.Loads.{text_added}
use Rattle.smk_store_members.proofs.Lists.{each_both, each_more}
use Rattle.smk_plan_look.specs.Gathering.{Texts, IsHeld, HasAdded, paths_of}

held_more : (x y : Texts) (ps : List Path) → ((q : Path) → contains_text x q ≡ true → contains_text y q ≡ true) → Each (IsHeld x) ps → Each (IsHeld y) ps
held_more x y ps keeps h = each_more (IsHeld x) (IsHeld y) (λ p i. (i.0, keeps p i.1)) ps h

pub added_nothing : (x : Texts) → HasAdded x x []
added_nothing x = record { keeps = λ q h. h; has = tt }

pub added_then : (x y z : Texts) (ps qs : List Path) → HasAdded x y ps → HasAdded y z qs → HasAdded x z (ps ++ qs)
added_then x y z ps qs a b = record { keeps = λ q h. b.keeps q (a.keeps q h); has = each_both (IsHeld z) ps qs (held_more y z ps b.keeps a.has) b.has }

added_more : (x y z : Texts) (ps qs all : List Path) → all ≡ ps ++ qs → HasAdded x y ps → HasAdded y z qs → HasAdded x z all
added_more x y z ps qs all e a b = subst (HasAdded x z) (sym e) (added_then x y z ps qs a b)

pub added_one : (s n : Texts) (bs p : Path) → bs ≡ p → is_path_text p ≡ true
    → sorted.UpdatesBy string_cmp (λ (k : String Global). slice_cmp nat_cmp bs (string_bytes k)) s n true → HasAdded s n (p ∷ [])
added_one s n bs p e path updates =
    record {
      keeps = λ q h. text_added s n bs p e updates q ∙ or_second (bytes_eq q p) (contains_text s q) h;
      has = ((path, text_added s n bs p e updates p ∙ or_first (bytes_eq p p) (contains_text s p) (place_itself p)), tt);
    }

-- ## One element after another

flat_append : {A : Type 0} (f : A → List Path) (xs : List A) (x : A) → flat_map f (xs ++ x ∷ []) ≡ flat_map f xs ++ f x
flat_append f [] x = append-nil (f x)
flat_append f (y ∷ xs) x = ap (λ (ps : List Path). f y ++ ps) (flat_append f xs x) ∙ sym (again (f y) (flat_map f xs) (f x))
  where
    again : (xs ys zs : List Path) → (xs ++ ys) ++ zs ≡ xs ++ (ys ++ zs)
    again [] ys zs = refl
    again (a ∷ xs) ys zs = ap (λ (ps : List Path). a ∷ ps) (again xs ys zs)

pub added_next : {A : Type 0} (f : A → List Path) (xs : List A) (i : ℕ) (x : A) (init now new : Texts) → i < length xs → x ≡ get_or xs i x
    → HasAdded init now (flat_map f (take i xs)) → HasAdded now new (f x) → HasAdded init new (flat_map f (take (i + 1) xs))
added_next f xs i x init now new lt at a b =
    added_more init now new (flat_map f (take i xs)) (f x) (flat_map f (take (i + 1) xs)) (ap (flat_map f) (next xs i x lt at) ∙ flat_append f (take i xs) x) a b

pub added_all : {A : Type 0} (f : A → List Path) (xs : List A) (i : ℕ) (init now : Texts) → length xs ≤ i → HasAdded init now (flat_map f (take i xs)) → HasAdded init now (flat_map f xs)
added_all {A = A} f xs i init now le a = subst (λ (ys : List A). HasAdded init now (flat_map f ys)) (take_all i xs le) a

-- ## Outputs

outs_append : (outs : List Out) (out : Out) → paths_of (outs ++ out ∷ []) ≡ paths_of outs ++ out.path ∷ []
outs_append [] out = refl
outs_append (o ∷ outs) out = ap (λ (ps : List Path). o.path ∷ ps) (outs_append outs out)

pub out_next : (outs : List Out) (i : ℕ) (out : Out) (init now new : Texts) → i < length outs → out ≡ get_or outs i out
    → HasAdded init now (paths_of (take i outs)) → HasAdded now new (out.path ∷ []) → HasAdded init new (paths_of (take (i + 1) outs))
out_next outs i out init now new lt at a b =
    added_more init now new (paths_of (take i outs)) (out.path ∷ []) (paths_of (take (i + 1) outs)) (ap paths_of (next outs i out lt at) ∙ outs_append (take i outs) out) a b

pub outs_all : (outs : List Out) (i : ℕ) (init now : Texts) → length outs ≤ i → HasAdded init now (paths_of (take i outs)) → HasAdded init now (paths_of outs)
outs_all outs i init now le a = subst (λ (os : List Out). HasAdded init now (paths_of os)) (take_all i outs le) a
