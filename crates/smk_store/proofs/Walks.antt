-- Names in the engine's folders, and what a walk over them finds.
use Rattle.std.proofs.Common.{◌≡◌, ◌⊎◌, inl, inr, ℕ, ◌<◌, ◌==◌, Bool, true, false, ◌&&◌, ◌||◌, not, cond, List, [], ◌∷◌, ◌++◌, length, get_or, refl, sym, ap, subst, ◌∙◌, arith, bytes_eq}
use Rattle.std.specs.Prelude.{String, string_bytes, if◌then◌else◌, nat_le}
use Rattle.std.specs.Global.{Global}
use Rattle.std.specs.BTreeSet.{BTreeSet, contains_text}
use Rattle.std.specs.BTreeSet as sorted
use Rattle.std.specs.Cmp.Lexicographic.{slice_cmp}
use Rattle.std.specs.List.{list_any}
use Rattle.std.specs.Ordering.{nat_cmp}
use Rattle.std.specs.Str.{IsUtf8}
use Rattle.std.proofs.Common.{length-append}
use Rattle.std.proofs.Math.Seq.{drop-append_seam, take-append_seam}
use Rattle.std.proofs.lemmas.Bool.{eqb-true, le-leb}
use Rattle.std.proofs.lemmas.Str.{IsUtf8-append, IsUtf8-from_ascii, IsUtf8-take, IsUtf8-drop, IsCharBoundary-from_take, IsCharBoundary-before_ascii}
use Rattle.std.proofs.lemmas.Str.Ascii.{IsAscii-cons, IsAscii-nil}
use Rattle.smk_base.specs.Path.{parts, to_first, is_path, is_path_byte, are_path_bytes, are_parts, is_at_or_under, own_folder}
use Rattle.smk_base.specs.Place.{name_of, joined_name}
use Rattle.smk_base.proofs.Names.{parts_some}
use Rattle.smk_base.proofs.Places.{and_first, and_second}
use Rattle.smk_base.proofs.Under.{never_both, false_of_not, both_true}
use Rattle.smk_world.specs.Calls.{is_name, IsTextName}
use Rattle.smk_world.specs.Trees.{is_path_text, is_text}
use Rattle.smk_record.proofs.Digits.{text_is_utf8}
use Rattle.std.specs.String.{string_cmp}
use Rattle.std.proofs.lemmas.Map.Text.{btree_set_updates_text}
use Rattle.smk_world.specs.Trees.{Path}

-- ## Sets of texts

cond_or : (a b : Bool) → cond a true b ≡ (a || b)
cond_or true b = refl
cond_or false b = refl

pub added : (s n : BTreeSet (String Global)) (bs front part : List ℕ) → bs ≡ front ++ part
    → sorted.UpdatesBy string_cmp (λ (k : String Global). slice_cmp nat_cmp bs (string_bytes k)) s n true → (q : Path) → contains_text n q ≡ (bytes_eq (front ++ part) q || contains_text s q)
added s n bs front part e updates q =
    btree_set_updates_text bs s n true updates q ∙ cond_or (bytes_eq bs q) (contains_text s q) ∙ ap (λ (t : List ℕ). bytes_eq t q || contains_text s q) e

-- ## Texts without a slash

abbrev pub flat : List ℕ → Bool
flat t = not (list_any (λ (b : ℕ). b == 47) t)

not_or_first : (a b : Bool) → not (a || b) ≡ true → a ≡ false
not_or_first true b h = sym h
not_or_first false b h = refl

pub not_or_second : (a b : Bool) → not (a || b) ≡ true → not b ≡ true
not_or_second true b h = absurd (never_both false h refl)
not_or_second false b h = h

first_flat : (b : ℕ) (t : List ℕ) → flat (b ∷ t) ≡ true → (b == 47) ≡ false
first_flat b t h = not_or_first (b == 47) (list_any (λ (x : ℕ). x == 47) t) h

rest_flat : (b : ℕ) (t : List ℕ) → flat (b ∷ t) ≡ true → flat t ≡ true
rest_flat b t h = not_or_second (b == 47) (list_any (λ (x : ℕ). x == 47) t) h

more_flat : (b : ℕ) (t : List ℕ) → (b == 47) ≡ false → flat t ≡ true → flat (b ∷ t) ≡ true
more_flat b t e h = ap (λ (v : Bool). not (v || list_any (λ (x : ℕ). x == 47) t)) e ∙ h

abbrev parts_by : ℕ → List (List ℕ) → Bool → List (List ℕ)
parts_by b ps slash = if slash then [] ∷ ps else to_first b ps

parts_flat : (t : List ℕ) → flat t ≡ true → parts t ≡ t ∷ []
parts_flat [] h = refl
parts_flat (b ∷ t) h = ap (parts_by b (parts t)) (first_flat b t h) ∙ ap (to_first b) (parts_flat t (rest_flat b t h))

parts_join : (t r : List ℕ) → flat t ≡ true → parts (t ++ 47 ∷ r) ≡ t ∷ parts r
parts_join [] r h = refl
parts_join (b ∷ t) r h = ap (parts_by b (parts (t ++ 47 ∷ r))) (first_flat b t h) ∙ ap (to_first b) (parts_join t r (rest_flat b t h))

joined_more : (part : List ℕ) (ps : List (List ℕ)) → (ps ≡ [] → ⊥) → joined_name (part ∷ ps) ≡ (43 ∷ part) ++ 47 ∷ joined_name ps
joined_more part [] some = absurd (some refl)
joined_more part (q ∷ qs) some = refl

pub name_flat : (t : List ℕ) → flat t ≡ true → name_of t ≡ 61 ∷ t
name_flat t h = ap joined_name (parts_flat t h)

pub name_join : (t r : List ℕ) → flat t ≡ true → name_of (t ++ 47 ∷ r) ≡ (43 ∷ t) ++ 47 ∷ name_of r
name_join t r h = ap joined_name (parts_join t r h) ∙ joined_more t (parts r) (parts_some r)

-- a text with a slash: its first part, and what follows
pub record Deeper (t : List ℕ) : Type 0 where
  pub part : List ℕ
  pub rest : List ℕ
  pub is : t ≡ part ++ 47 ∷ rest
  pub is_flat : flat part ≡ true

split_by : (b : ℕ) (t : List ℕ) (slash : Bool) → (b == 47) ≡ slash → (flat t ≡ true) ⊎ Deeper t → (flat (b ∷ t) ≡ true) ⊎ Deeper (b ∷ t)
split_by b t true e more = inr (record { part = []; rest = t; is = ap (λ (x : ℕ). x ∷ t) (eqb-true b 47 e); is_flat = refl })
split_by b t false e (inl h) = inl (more_flat b t e h)
split_by b t false e (inr d) = inr (record { part = b ∷ d.part; rest = d.rest; is = ap (λ (x : List ℕ). b ∷ x) d.is; is_flat = more_flat b d.part e d.is_flat })

pub split : (t : List ℕ) → (flat t ≡ true) ⊎ Deeper t
split [] = inl refl
split (b ∷ t) = split_by b t (b == 47) refl (split t)

-- ## Texts

pub utf8_behind : (front rest : List ℕ) → IsUtf8 (front ++ rest) → IsUtf8 front → IsUtf8 rest
utf8_behind front rest all first =
    subst IsUtf8 (drop-append_seam front rest)
    (IsUtf8-drop (front ++ rest) (length front) all
    (IsCharBoundary-from_take (front ++ rest) (length front) all (omega (arith, length-append front rest)) (subst IsUtf8 (sym (take-append_seam front rest)) first)))

pub utf8_before : (part rest : List ℕ) → IsUtf8 (part ++ 47 ∷ rest) → IsUtf8 part
utf8_before part rest all =
    subst IsUtf8 (take-append_seam part (47 ∷ rest))
    (IsUtf8-take (part ++ 47 ∷ rest) (length part) all
    (IsCharBoundary-before_ascii (part ++ 47 ∷ rest) (length part) (omega (arith, length-append part (47 ∷ rest))) (small part)))
  where
    small : (t : List ℕ) → get_or (t ++ 47 ∷ rest) (length t) 0 < 128
    small [] = omega arith
    small (b ∷ t) = small t

no_lf : (t : List ℕ) → are_path_bytes t ≡ true → list_any (λ (b : ℕ). b == 10) t ≡ false
no_lf [] h = refl
no_lf (b ∷ t) h =
    let here : is_path_byte b ≡ true = and_first (is_path_byte b) (are_path_bytes t) h in
    ap (λ (v : Bool). v || list_any (λ (x : ℕ). x == 10) t) (false_of_not (b == 10) (and_second (not (b == 0)) (not (b == 10)) here))
    ∙ no_lf t (and_second (is_path_byte b) (are_path_bytes t) h)

pub bytes_behind : (front rest : List ℕ) → are_path_bytes (front ++ rest) ≡ true → are_path_bytes rest ≡ true
bytes_behind [] rest h = h
bytes_behind (b ∷ front) rest h = bytes_behind front rest (and_second (is_path_byte b) (are_path_bytes (front ++ rest)) h)

pub bytes_before : (part rest : List ℕ) → are_path_bytes (part ++ rest) ≡ true → are_path_bytes part ≡ true
bytes_before [] rest h = refl
bytes_before (b ∷ part) rest h =
    both_true (is_path_byte b) (are_path_bytes part) (and_first (is_path_byte b) (are_path_bytes (part ++ rest)) h)
    (bytes_before part rest (and_second (is_path_byte b) (are_path_bytes (part ++ rest)) h))

pub path_bytes : (p : Path) → is_path_text p ≡ true → are_path_bytes p ≡ true
path_bytes p h =
    and_first (are_path_bytes p) (are_parts (parts p) && not (is_at_or_under p own_folder))
    (and_second (nat_le (length p) 1000) (are_path_bytes p && (are_parts (parts p) && not (is_at_or_under p own_folder))) (and_first (is_path p) (is_text p) h))

pub path_short : (p : Path) → is_path_text p ≡ true → nat_le (length p) 1000 ≡ true
path_short p h =
    and_first (nat_le (length p) 1000) (are_path_bytes p && (are_parts (parts p) && not (is_at_or_under p own_folder))) (and_first (is_path p) (is_text p) h)

pub path_utf8 : (p : Path) → is_path_text p ≡ true → IsUtf8 p
path_utf8 p h = text_is_utf8 p (and_second (is_path p) (is_text p) h)

-- a sign and a part of a path are a name of text
pub signed_text : (sign : ℕ) (t : List ℕ) → sign < 128 → (sign == 10) ≡ false → IsUtf8 t → are_path_bytes t ≡ true → IsTextName (sign ∷ t)
signed_text sign t small other utf8 bytes = (
  IsUtf8-append (sign ∷ []) t (IsUtf8-from_ascii (sign ∷ []) (IsAscii-cons sign [] small IsAscii-nil)) utf8,
  ap (λ (v : Bool). v || list_any (λ (b : ℕ). b == 10) t) other ∙ no_lf t bytes,
)

pub signed_name : (sign : ℕ) (t : List ℕ) → (sign == 47) ≡ false → flat t ≡ true → is_name (sign ∷ t) ≡ true
signed_name sign t other h = both_true (nat_le 1 (length (sign ∷ t))) (flat (sign ∷ t)) (le-leb 1 (length (sign ∷ t)) (omega arith)) (more_flat sign t other h)
