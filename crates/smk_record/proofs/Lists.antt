-- Lists of paths, one element further.
use Rattle.std.proofs.Common.{◌≡◌, ℕ, suc, ◌+◌, ◌<◌, ◌≤◌, Bool, true, false, ◌&&◌, ◌||◌, List, [], ◌∷◌, ◌++◌, map, length, take, drop, get_or, refl, sym, ap, ◌∙◌, arith, eqb, length-append, length-drop, drop-cons, add-one}
use Rattle.std.specs.Prelude.{bytes_eq}
use Rattle.std.specs.List.{list_all, flat_map}
use Rattle.std.proofs.lemmas.List.{take_more, map_push, append-nil, take-append-drop}
use Rattle.std.proofs.lemmas.Bool.{eqb-true}
use Rattle.std.proofs.lemmas.List.Folds.{list_all-append}
use Rattle.std.proofs.lemmas.List.Concat.{flat_map-append, flat_map-cons}
use Rattle.std.specs.Str.{IsUtf8}
use Rattle.smk_base.specs.Path.{is_path}
use Rattle.smk_base.proofs.Under.{both_true, false_unless}
use Rattle.smk_world.specs.World.{is_named}
use Rattle.smk_world.specs.Trees.{Path, is_path_text, is_text}
use Rattle.smk_record.proofs.Digits.{utf8_is_text}

pub path_text : (p : Path) → is_path p ≡ true → IsUtf8 p → is_path_text p ≡ true
path_text p h u = both_true (is_path p) (is_text p) h (utf8_is_text p u)

or_again : (a b c : Bool) → ((a || b) || c) ≡ (a || (b || c))
or_again true b c = refl
or_again false b c = refl

or_none : (a : Bool) → (a || false) ≡ a
or_none true = refl
or_none false = refl

pub named_append : (q : Path) (ps qs : List Path) → is_named q (ps ++ qs) ≡ (is_named q ps || is_named q qs)
named_append q [] qs = refl
named_append q (p ∷ ps) qs = ap (λ b. bytes_eq q p || b) (named_append q ps qs) ∙ sym (or_again (bytes_eq q p) (is_named q ps) (is_named q qs))

pub mapped_more : {X : Type 0} (f : X → Path) (xs : List X) (i : ℕ) (x : X) → i < length xs → x ≡ get_or xs i x → map f (take (i + 1) xs) ≡ map f (take i xs) ++ f x ∷ []
mapped_more f xs i x lt e = ap (map f) (take_more xs i x lt ∙ ap (λ y. take i xs ++ y ∷ []) (sym e)) ∙ map_push f (take i xs) x

pub flat_more : {X A : Type 0} (f : X → List A) (xs : List X) (i : ℕ) (x : X) → i < length xs → x ≡ get_or xs i x → flat_map f (take (i + 1) xs) ≡ flat_map f (take i xs) ++ f x
flat_more f xs i x lt e =
    ap (flat_map f) (take_more xs i x lt ∙ ap (λ y. take i xs ++ y ∷ []) (sym e)) ∙ flat_map-append f (take i xs) (x ∷ []) ∙ ap (λ t. flat_map f (take i xs) ++ t) (flat_map-cons f x [] ∙ append-nil (f x))

pub named_step : (q : Path) (ps : List Path) (p : Path) (all : List Path) (found eq : Bool) → all ≡ ps ++ p ∷ [] → found ≡ is_named q ps → eq ≡ bytes_eq q p → (found || eq) ≡ is_named q all
named_step q ps p all found eq e f g = ap (λ b. b || eq) f ∙ ap (λ b. is_named q ps || b) (g ∙ sym (or_none (bytes_eq q p))) ∙ sym (named_append q ps (p ∷ [])) ∙ ap (is_named q) (sym e)

pub paths_step : (ps : List Path) (p : Path) (all : List Path) → all ≡ ps ++ p ∷ [] → list_all is_path_text ps ≡ true → is_path_text p ≡ true → list_all is_path_text all ≡ true
paths_step ps p all e h g = ap (list_all is_path_text) e ∙ list_all-append is_path_text ps (p ∷ []) ∙ both_true (list_all is_path_text ps) (list_all is_path_text (p ∷ [])) h (both_true (is_path_text p) true g refl)

pub named_join : (q : Path) (ps qs all : List Path) (found more : Bool) → all ≡ ps ++ qs → found ≡ is_named q ps → more ≡ is_named q qs → (found || more) ≡ is_named q all
named_join q ps qs all found more e f g = ap (λ b. b || more) f ∙ ap (λ b. is_named q ps || b) g ∙ sym (named_append q ps qs) ∙ ap (is_named q) (sym e)

pub paths_join : (ps qs all : List Path) → all ≡ ps ++ qs → list_all is_path_text ps ≡ true → list_all is_path_text qs ≡ true → list_all is_path_text all ≡ true
paths_join ps qs all e h g = ap (list_all is_path_text) e ∙ list_all-append is_path_text ps qs ∙ both_true (list_all is_path_text ps) (list_all is_path_text qs) h g

-- too few stamps for the paths so far, so for all
pub too_few : {X : Type 0} (f : X → List Path) (xs : List X) (i : ℕ) (x : X) (left total : ℕ) → i < length xs → x ≡ get_or xs i x → length (flat_map f (take i xs)) + left ≡ total → left < length (f x)
    → false ≡ (eqb total (length (flat_map f xs)) && list_all is_path_text (flat_map f xs))
too_few f xs i x left total lt e h few =
    let split : flat_map f xs ≡ flat_map f (take (i + 1) xs) ++ flat_map f (drop (i + 1) xs) = ap (flat_map f) (sym (take-append-drop (i + 1) xs)) ∙ flat_map-append f (take (i + 1) xs) (drop (i + 1) xs) in
    let some = length-append (flat_map f (take (i + 1) xs)) (flat_map f (drop (i + 1) xs)) in
    let len = ap length (flat_more f xs i x lt e) ∙ length-append (flat_map f (take i xs)) (f x) in
    let more : total < length (flat_map f xs) = omega (arith, ap length split, some, len, h, few) in
    let ne : eqb total (length (flat_map f xs)) ≡ false = false_unless (eqb total (length (flat_map f xs))) (λ same. omega (arith, more, eqb-true _ _ same)) in
    sym (ap (λ b. b && list_all is_path_text (flat_map f xs)) ne)

pub dropped_more : {X : Type 0} (xs rest more : List X) (i : ℕ) (x : X) → rest ≡ drop i xs → rest ≡ x ∷ more → (more ≡ drop (i + 1) xs) × (i + 1 ≤ length xs)
dropped_more xs rest more i x e f =
    let len : length rest ≡ suc (length more) = ap length f in
    let in_range : i < length xs = omega (arith, len, ap length e, length-drop i xs) in
    let next : drop i xs ≡ get_or xs i x ∷ drop (suc i) xs = drop-cons xs i x in_range in
    let same : x ∷ more ≡ get_or xs i x ∷ drop (suc i) xs = sym f ∙ e ∙ next in
    let tail : more ≡ drop (suc i) xs = cc in
    (tail ∙ ap (λ k. drop k xs) (sym (add-one i)), omega arith)
