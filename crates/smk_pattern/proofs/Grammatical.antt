-- A text is written as a pattern where the grammar's relation has it, and is read as the pattern of the relation.
use Rattle.std.proofs.Common.{◌≡◌, ℕ, zero, suc, ◌+◌, ◌<◌, ◌≤◌, ◌⊎◌, ◌==◌, ◌&&◌, ◌||◌, inl, inr, ⊎_elim, List, [], ◌∷◌, ◌++◌, length, map, filter, take, Option, Some, Result, Ok, Err, OnOk, IfOk, cond, not, Bool, true, false, refl, sym, ap, ap₂, subst, ◌∙◌, arith, true≢false, nat_le, bytes_eq}
use Rattle.std.specs.List.{list_all, list_any, slice_get}
use Rattle.std.proofs.lemmas.Bool.{eq-eqb, and_parts, and_from}
use Rattle.std.proofs.lemmas.Bool.Decides.{nat_tests}
use Rattle.std.proofs.lemmas.List.{length-map, take_more, take_all, length-take-le}
use Rattle.std.proofs.lemmas.Option.{slice_get_within, get_or_from_slice_get}
use Rattle.std.proofs.lemmas.Slice.Eq.{bytes_eq-Decides}
use Rattle.smk_base.specs.declared.tree.Pair.{Pair}
use Rattle.smk_base.specs.Path.{is_path}
use Rattle.smk_pattern.specs.Shapes.{Text, Part, Wildcard, Shape, IsNumbered}
use Rattle.smk_pattern.specs.Shapes.Part.{text, wild}
use Rattle.smk_pattern.specs.Grammar.{Piece, plain, hole, is_balanced, inline_limits, limit_for, AllPartsOf, IsLimitIn, IsPattern}
use Rattle.smk_pattern.specs.Reading.{place_of, part_in, names_in, is_hole, pieces, shape_of}
use Rattle.smk_pattern.specs.Written.{is_named, is_single, are_written, is_written, wildcard_in, AreLimits, ReadingIsGrammar}
use Rattle.smk_pattern.proofs.Names.{names_from, lacks, names_from_none, numbered_all}
use Rattle.smk_pattern.proofs.Spelling.{pieces_spell, pieces_of}

-- ---- names that stand once

abbrev differs : Text → Text → Bool
differs x y = not (bytes_eq x y)

abbrev AreDistinct : List Text → Type 0
AreDistinct [] = Unit {0}
AreDistinct (x ∷ xs) = (list_all (differs x) xs ≡ true) × AreDistinct xs

all_filtered : (p : Text → Bool) (xs : List Text) → list_all p (filter p xs) ≡ true
all_filtered p [] = refl
all_filtered p (x ∷ xs) = by (p x) refl (all_filtered p xs)
  where
    by : (b : Bool) → p x ≡ b → list_all p (filter p xs) ≡ true → list_all p (cond (p x) (x ∷ filter p xs) (filter p xs)) ≡ true
    by true e r = ap (λ b. list_all p (cond b (x ∷ filter p xs) (filter p xs))) e ∙ and_from (p x) (list_all p (filter p xs)) e r
    by false e r = ap (λ b. list_all p (cond b (x ∷ filter p xs) (filter p xs))) e ∙ r

all_kept : (p q : Text → Bool) (xs : List Text) → list_all q xs ≡ true → list_all q (filter p xs) ≡ true
all_kept p q [] e = refl
all_kept p q (x ∷ xs) e = let h = and_parts (q x) (list_all q xs) e in by (p x) refl h.0 (all_kept p q xs h.1)
  where
    by : (b : Bool) → p x ≡ b → q x ≡ true → list_all q (filter p xs) ≡ true → list_all q (cond (p x) (x ∷ filter p xs) (filter p xs)) ≡ true
    by true e f r = ap (λ b. list_all q (cond b (x ∷ filter p xs) (filter p xs))) e ∙ and_from (q x) (list_all q (filter p xs)) f r
    by false e f r = ap (λ b. list_all q (cond b (x ∷ filter p xs) (filter p xs))) e ∙ r

distinct_kept : (p : Text → Bool) (xs : List Text) → AreDistinct xs → AreDistinct (filter p xs)
distinct_kept p [] d = tt
distinct_kept p (x ∷ xs) d = by (p x) refl (distinct_kept p xs d.1)
  where
    by : (b : Bool) → p x ≡ b → AreDistinct (filter p xs) → AreDistinct (cond (p x) (x ∷ filter p xs) (filter p xs))
    by true e r = subst (λ b. AreDistinct (cond b (x ∷ filter p xs) (filter p xs))) (sym e) (all_kept p (differs x) xs d.0, r)
    by false e r = subst (λ b. AreDistinct (cond b (x ∷ filter p xs) (filter p xs))) (sym e) r

names_distinct : (ps : List Piece) → AreDistinct (names_in ps)
names_distinct [] = tt
names_distinct (plain t ∷ ps) = names_distinct ps
names_distinct (hole name limit ∷ ps) = (all_filtered (differs name) (names_in ps), distinct_kept (differs name) (names_in ps) (names_distinct ps))

all_at : {A : Type 0} (p : A → Bool) (xs : List A) (n : ℕ) (x : A) → list_all p xs ≡ true → slice_get xs n ≡ Some x → p x ≡ true
all_at p [] n x e f = absurd cc
all_at p (y ∷ xs) zero x e f = let same : y ≡ x = cc in ap p (sym same) ∙ (and_parts (p y) (list_all p xs) e).0
all_at p (y ∷ xs) (suc n) x e f = all_at p xs n x (and_parts (p y) (list_all p xs) e).1 f

-- a name stands at one place
abbrev OnePlace : List Text → Type 0
OnePlace names = (m n : ℕ) (x : Text) → slice_get names m ≡ Some x → slice_get names n ≡ Some x → m ≡ n

not_here : (y x : Text) (xs : List Text) (n : ℕ) → list_all (differs y) xs ≡ true → y ≡ x → slice_get xs n ≡ Some x → ⊥
not_here y x xs n d e f = true≢false (sym (all_at (differs y) xs n x d f) ∙ ap not ((bytes_eq-Decides y x).1 e))

one_place : (xs : List Text) → AreDistinct xs → OnePlace xs
one_place [] d m n x e f = absurd cc
one_place (y ∷ xs) d zero zero x e f = refl
one_place (y ∷ xs) d zero (suc n) x e f = absurd (not_here y x xs n d.0 (cc) f)
one_place (y ∷ xs) d (suc m) zero x e f = absurd (not_here y x xs m d.0 (cc) e)
one_place (y ∷ xs) d (suc m) (suc n) x e f = ap (λ k. suc k) (one_place xs d.1 m n x e f)

-- ---- the place of a name

pub place_found : (name : Text) (xs : List Text) → place_of name xs < length xs → slice_get xs (place_of name xs) ≡ Some name
place_found name [] lt = absurd (omega (arith, lt))
place_found name (other ∷ xs) lt = by (bytes_eq name other) refl (place_found name xs)
  where
    by : (b : Bool) → bytes_eq name other ≡ b → (place_of name xs < length xs → slice_get xs (place_of name xs) ≡ Some name) →
        slice_get (other ∷ xs) (cond (bytes_eq name other) 0 (suc (place_of name xs))) ≡ Some name
    by true e later = ap (λ b. slice_get (other ∷ xs) (cond b 0 (suc (place_of name xs)))) e ∙ ap Some (sym ((bytes_eq-Decides name other).0 e))
    by false e later =
        let less : suc (place_of name xs) < suc (length xs) = subst (λ b. cond b 0 (suc (place_of name xs)) < suc (length xs)) e lt in
        ap (λ b. slice_get (other ∷ xs) (cond b 0 (suc (place_of name xs)))) e ∙ later (omega (arith, less))

at_most_by : (b : Bool) (x n : ℕ) → x ≤ n → cond b 0 (suc x) ≤ suc n
at_most_by true x n h = omega arith
at_most_by false x n h = omega (arith, h)

place_at_most : (name : Text) (xs : List Text) (n : ℕ) → slice_get xs n ≡ Some name → place_of name xs ≤ n
place_at_most name [] n e = absurd cc
place_at_most name (other ∷ xs) zero e =
    let same : name ≡ other = cc in
    let here : cond (bytes_eq name other) 0 (suc (place_of name xs)) ≡ 0 = ap (λ b. cond b 0 (suc (place_of name xs))) ((bytes_eq-Decides name other).1 same) in
    omega (arith, here)
place_at_most name (other ∷ xs) (suc n) e = at_most_by (bytes_eq name other) (place_of name xs) n (place_at_most name xs n e)

place_is : (name : Text) (xs : List Text) (n : ℕ) → OnePlace xs → slice_get xs n ≡ Some name → n ≡ place_of name xs
place_is name xs n one e =
    let lt : place_of name xs < length xs = omega (arith, place_at_most name xs n e, slice_get_within xs n name e) in
    one n (place_of name xs) name e (place_found name xs lt)

get_take : {A : Type 0} (xs : List A) (k n : ℕ) (x : A) → slice_get xs n ≡ Some x → n < k → slice_get (take k xs) n ≡ Some x
get_take [] k n x e lt = absurd cc
get_take (y ∷ xs) zero n x e lt = absurd (omega (arith, lt))
get_take (y ∷ xs) (suc k) zero x e lt = e
get_take (y ∷ xs) (suc k) (suc n) x e lt = get_take xs k n x e (omega (arith, lt))

get_taken : {A : Type 0} (xs : List A) (k n : ℕ) (x : A) → slice_get (take k xs) n ≡ Some x → slice_get xs n ≡ Some x
get_taken [] zero n x e = absurd cc
get_taken [] (suc k) n x e = absurd cc
get_taken (y ∷ xs) zero n x e = absurd cc
get_taken (y ∷ xs) (suc k) zero x e = e
get_taken (y ∷ xs) (suc k) (suc n) x e = get_taken xs k n x e

-- ---- parts

numbered_le : (ps : List Part) (known all : ℕ) → IsNumbered ps known all → known ≤ all
numbered_le [] known all e = omega (arith, e)
numbered_le (text t ∷ ps) known all h = numbered_le ps known all h
numbered_le (wild n ∷ ps) known all (inl h) = numbered_le ps known all h.1
numbered_le (wild n ∷ ps) known all (inr h) = let lt = h.1 in omega (arith, lt)

pub below_all : (n : ℕ) (ps : List Part) (known all : ℕ) → IsNumbered (wild n ∷ ps) known all → n < all
below_all n ps known all (inl h) = let lt = h.0 in omega (arith, lt, numbered_le ps known all h.1)
below_all n ps known all (inr h) = let e = h.0 in let lt = h.1 in omega (arith, e, lt)

pub later_numbered : (n : ℕ) (ps : List Part) (known all : ℕ) → IsNumbered (wild n ∷ ps) known all → (next : ℕ) × IsNumbered ps next all
later_numbered n ps known all (inl h) = (known, h.1)
later_numbered n ps known all (inr h) = (known + 1, h.2)

parts_made : (names : List Text) (ps : List Piece) (known : ℕ) → IsNumbered (map (part_in names) ps) known (length names) → AllPartsOf names ps (map (part_in names) ps)
parts_made names [] known h = refl
parts_made names (plain t ∷ ps) known h = (text t, map (part_in names) ps, refl, refl, parts_made names ps known h)
parts_made names (hole name limit ∷ ps) known h =
    let later = later_numbered (place_of name names) (map (part_in names) ps) known (length names) h in (
      wild (place_of name names),
      map (part_in names) ps,
      refl,
      (place_of name names, refl, place_found name names (below_all (place_of name names) (map (part_in names) ps) known (length names) h)),
      parts_made names ps later.0 later.1,
    )

parts_are : (names : List Text) (ps : List Piece) (parts : List Part) → OnePlace names → AllPartsOf names ps parts → parts ≡ map (part_in names) ps
parts_are names [] parts one e = e
parts_are names (plain t ∷ ps) parts one (q, qs, e, f, rest) = e ∙ ap₂ (λ (x : Part) (xs : List Part). x ∷ xs) f (parts_are names ps qs one rest)
parts_are names (hole name limit ∷ ps) parts one (q, qs, e, (n, f, at), rest) =
    e ∙ ap₂ (λ (x : Part) (xs : List Part). x ∷ xs) (f ∙ ap wild (place_is name names n one at)) (parts_are names ps qs one rest)

-- ---- names in the order in which they first stand

known_name : (names : List Text) (k n : ℕ) (name : Text) → k ≤ length names → slice_get names n ≡ Some name → n < k → lacks (take k names) name ≡ false
known_name names k n name le e lt =
    different _ _ (omega (arith, lt, place_at_most name (take k names) n (get_take names k n name e lt), length-take-le k names le))
  where
    different : (i j : ℕ) → i < j → (i == j) ≡ false
    different i j h = grind (arith, nat_tests)

new_name : (names : List Text) (k : ℕ) (name : Text) → OnePlace names → k ≤ length names → slice_get names k ≡ Some name → lacks (take k names) name ≡ true
new_name names k name one le e =
    let l = length-take-le k names le in
    ⊎_elim
    (λ (lt : place_of name (take k names) < length (take k names)).
    let at = get_taken names k (place_of name (take k names)) name (place_found name (take k names) lt) in
    let same = one (place_of name (take k names)) k name at e in
    absurd (omega (arith, lt, l, same)))
    (λ (ge : length (take k names) ≤ place_of name (take k names)). eq-eqb _ _ (omega (arith, ge, l, most (take k names))))
    (split (place_of name (take k names)) (length (take k names)))
  where
    split : (m n : ℕ) → (m < n) ⊎ (n ≤ m)
    split m n = grind arith

    most_by : (b : Bool) (x n : ℕ) → x ≤ n → cond b 0 (suc x) ≤ suc n
    most_by true x n h = omega arith
    most_by false x n h = omega (arith, h)

    most : (xs : List Text) → place_of name xs ≤ length xs
    most [] = omega arith
    most (other ∷ xs) = most_by (bytes_eq name other) (place_of name xs) (length xs) (most xs)

names_walk : (names : List Text) (ps : List Piece) (parts : List Part) (k : ℕ) → OnePlace names → k ≤ length names → AllPartsOf names ps parts → IsNumbered parts k (length names) →
    names_from (take k names) ps ≡ names
names_walk names [] parts k one le e num =
    let num' : IsNumbered [] k (length names) = subst (λ (qs : List Part). IsNumbered qs k (length names)) e num in
    take_all k names (omega (arith, num'))
names_walk names (plain t ∷ ps) parts k one le (q, qs, e, f, rest) num =
    names_walk names ps qs k one le rest (subst (λ (xs : List Part). IsNumbered xs k (length names)) (e ∙ ap (λ (x : Part). x ∷ qs) f) num)
names_walk names (hole name limit ∷ ps) parts k one le (q, qs, e, (n, f, at), rest) num =
    by (subst (λ (xs : List Part). IsNumbered xs k (length names)) (e ∙ ap (λ (x : Part). x ∷ qs) f) num) (λ (m : ℕ) (h : m ≤ length names) (i : IsNumbered qs m (length names)). names_walk names ps qs m one h rest i)
  where
    by : IsNumbered (wild n ∷ qs) k (length names) → ((m : ℕ) → m ≤ length names → IsNumbered qs m (length names) → names_from (take m names) ps ≡ names) →
        names_from (cond (lacks (take k names) name) (take k names ++ name ∷ []) (take k names)) ps ≡ names
    by (inl h) later =
        let lt = h.0 in
        ap (λ b. names_from (cond b (take k names ++ name ∷ []) (take k names)) ps) (known_name names k n name le at lt) ∙ later k le h.1
    by (inr h) later =
        let here : slice_get names k ≡ Some name = ap (slice_get names) (sym h.0) ∙ at in
        let lt = h.1 in
        let next : take k names ++ name ∷ [] ≡ take (k + 1) names =
        ap (λ (x : Text). take k names ++ x ∷ []) (sym (get_or_from_slice_get names k name name here)) ∙ sym (take_more names k name lt) in
        ap (λ b. names_from (cond b (take k names ++ name ∷ []) (take k names)) ps) (new_name names k name one le here)
        ∙ ap (λ xs. names_from xs ps) next ∙ later (k + 1) (omega (arith, lt)) h.2

-- ---- wildcards

abbrev name_of : Wildcard → Text
name_of w = w.name

wildcards_are : (f : Text → Option Text) (ws : List Wildcard) → ((n : ℕ) (w : Wildcard) → slice_get ws n ≡ Some w → w.limit ≡ f w.name) →
    ws ≡ map (λ (name : Text). let x : Wildcard = record { name = name; limit = f name } in x) (map name_of ws)
wildcards_are f [] h = refl
wildcards_are f (w ∷ ws) h =
    ap₂ (λ (x : Wildcard) (xs : List Wildcard). x ∷ xs)
    (ap (λ (l : Option Text). let x : Wildcard = record { name = w.name; limit = l } in x) (h 0 w refl))
    (wildcards_are f ws (λ n. h (suc n)))

names_again : (given : List Pair) (ps : List Piece) (names : List Text) → map name_of (map (wildcard_in given ps) names) ≡ names
names_again given ps [] = refl
names_again given ps (name ∷ names) = ap (λ xs. name ∷ xs) (names_again given ps names)

-- the wildcard at a place is that of the name at this place
pub record IsMade (given : List Pair) (ps : List Piece) (names : List Text) (n : ℕ) (w : Wildcard) : Type 0 where
  pub name : Text
  pub at : slice_get names n ≡ Some name
  pub is : w ≡ wildcard_in given ps name

made_at : (given : List Pair) (ps : List Piece) (names : List Text) (n : ℕ) (w : Wildcard) → slice_get (map (wildcard_in given ps) names) n ≡ Some w → IsMade given ps names n w
made_at given ps [] n w e = absurd cc
made_at given ps (name ∷ names) zero w e = let same : wildcard_in given ps name ≡ w = cc in record { name = name; at = refl; is = sym same }
made_at given ps (name ∷ names) (suc n) w e = let r = made_at given ps names n w e in record { name = r.name; at = r.at; is = r.is }

wildcard_at : (ws : List Wildcard) (n : ℕ) (name : Text) → slice_get (map name_of ws) n ≡ Some name → (w : Wildcard) × (slice_get ws n ≡ Some w) × (w.name ≡ name)
wildcard_at [] n name e = absurd cc
wildcard_at (w ∷ ws) zero name e = let same : w.name ≡ name = cc in (w, refl, same)
wildcard_at (w ∷ ws) (suc n) name e = wildcard_at ws n name e

-- ---- counts

single_less : (n : ℕ) → nat_le n 1 ≡ true → n < 2
single_less n e = grind (arith, nat_tests)

less_single : (n : ℕ) → n < 2 → nat_le n 1 ≡ true
less_single n e = grind (arith, nat_tests)

le_true : (m n : ℕ) → nat_le m n ≡ true → m ≤ n
le_true m n e = grind (arith, nat_tests)

true_le : (m n : ℕ) → m ≤ n → nat_le m n ≡ true
true_le m n e = grind (arith, nat_tests)

all_single : (ps : List Piece) (names : List Text) → ((n : ℕ) (name : Text) → slice_get names n ≡ Some name → length (inline_limits name ps) < 2) → list_all (is_single ps) names ≡ true
all_single ps [] h = refl
all_single ps (name ∷ names) h =
    and_from (is_single ps name) (list_all (is_single ps) names) (less_single (length (inline_limits name ps)) (h 0 name refl)) (all_single ps names (λ n. h (suc n)))

some_name : (ps : List Piece) → list_any is_hole ps ≡ true → 0 < length (names_in ps)
some_name [] e = absurd (true≢false (sym e))
some_name (plain t ∷ ps) e = some_name ps e
some_name (hole name limit ∷ ps) e = omega arith

no_name : (ps : List Piece) → list_any is_hole ps ≡ false → names_in ps ≡ []
no_name [] e = refl
no_name (plain t ∷ ps) e = no_name ps e
no_name (hole name limit ∷ ps) e = absurd (true≢false e)

path_by : (has path : Bool) → has || path ≡ true → (has ≡ true → ⊥) → path ≡ true
path_by true path e h = absurd (h refl)
path_by false path e h = e

or_by : (has path : Bool) → (has ≡ false → path ≡ true) → has || path ≡ true
or_by true path h = refl
or_by false path h = h refl

-- ---- both ways

from_written : (given : List Pair) (source : Text) → is_written source ≡ true → AreLimits given (pieces source) (names_in (pieces source)) → IsPattern given source is_path (shape_of given source)
from_written given source e limits =
    let ps = pieces source in
    let names = names_in ps in
    let a = and_parts (is_balanced 0 source) (are_written ps && (list_any is_hole ps || is_path source)) e in
    let b = and_parts (are_written ps) (list_any is_hole ps || is_path source) a.1 in
    let d = and_parts (list_all is_named ps) (list_all (is_single ps) names && nat_le 1 (length ps)) b.0 in
    let f = and_parts (list_all (is_single ps) names) (nat_le 1 (length ps)) d.1 in
    let count : length (map (wildcard_in given ps) names) ≡ length names = length-map names (wildcard_in given ps) in
    record {
      pieces = ps;
      spells = pieces_spell source a.0 d.0;
      filled = let le = le_true 1 (length ps) f.1 in omega (arith, le);
      parts = subst (λ (xs : List Text). AllPartsOf xs ps (map (part_in names) ps)) (sym (names_again given ps names)) (parts_made names ps 0 (numbered_all ps));
      numbered = subst (λ (n : ℕ). IsNumbered (map (part_in names) ps) 0 n) (sym count) (numbered_all ps);
      limits = λ n w at. let m = made_at given ps names n w at in
          subst (IsLimitIn given ps) (sym m.is) (refl, single_less (length (inline_limits m.name ps)) (all_at (is_single ps) names n m.name f.0 m.at));
      distinct = λ m n v w at_v at_w same.
          let x = made_at given ps names m v at_v in
          let y = made_at given ps names n w at_w in
          let name : y.name ≡ x.name = sym (ap name_of y.is) ∙ sym same ∙ ap name_of x.is in
          one_place names (names_distinct ps) m n x.name x.at (y.at ∙ ap Some name);
      path = λ none. path_by (list_any is_hole ps) (is_path source) b.1 (λ h. let lt = some_name ps h in omega (arith, none, count, lt));
      read = λ n w l at is.
          let m = made_at given ps names n w at in
          limits n m.name l m.at (sym (ap (λ (x : Wildcard). x.limit) m.is) ∙ is);
    }

abbrev shape_from : List Pair → List Piece → Shape
shape_from given ps = record { parts = map (part_in (names_in ps)) ps; wildcards = map (wildcard_in given ps) (names_in ps) }

abbrev written_by : Text → List Piece → Bool
written_by source ps = is_balanced 0 source && (are_written ps && (list_any is_hole ps || is_path source))

abbrev Reads : List Pair → Text → Shape → List Piece → Type 0
Reads given source p ps = (written_by source ps ≡ true) × AreLimits given ps (names_in ps) × (p ≡ shape_from given ps)

from_grammar : (given : List Pair) (source : Text) (p : Shape) → IsPattern given source is_path p →
    (is_written source ≡ true) × AreLimits given (pieces source) (names_in (pieces source)) × (p ≡ shape_of given source)
from_grammar given source p h =
    let ps = h.pieces in
    let s = pieces_of ps source h.spells in
    let names = map name_of p.wildcards in
    let count : length names ≡ length p.wildcards = length-map p.wildcards name_of in
    let one : OnePlace names = λ m n x e f.
    let v = wildcard_at p.wildcards m x e in
    let w = wildcard_at p.wildcards n x f in
    h.distinct m n v.0 w.0 v.1 w.1 (v.2 ∙ sym w.2) in
    let same : names_in ps ≡ names =
    sym (names_from_none ps) ∙ names_walk names ps p.parts 0 one (omega arith) h.parts (subst (λ (n : ℕ). IsNumbered p.parts 0 n) (sym count) h.numbered) in
    let parts : p.parts ≡ map (part_in (names_in ps)) ps = parts_are names ps p.parts one h.parts ∙ ap (λ (xs : List Text). map (part_in xs) ps) (sym same) in
    let wildcards : p.wildcards ≡ map (wildcard_in given ps) (names_in ps) =
    wildcards_are (λ name. limit_for given name (inline_limits name ps)) p.wildcards (λ n w at. (h.limits n w at).0) ∙ ap (map (wildcard_in given ps)) (sym same) in
    let single : list_all (is_single ps) (names_in ps) ≡ true =
    ap (list_all (is_single ps)) same
    ∙ all_single ps names (λ n name e. let w = wildcard_at p.wildcards n name e in subst (λ (x : Text). length (inline_limits x ps) < 2) w.2 (h.limits n w.0 w.1).1) in
    let path : list_any is_hole ps || is_path source ≡ true =
    or_by (list_any is_hole ps) (is_path source) (λ e. h.path (sym count ∙ ap length (sym same ∙ no_name ps e))) in
    let written : written_by source ps ≡ true =
    and_from (is_balanced 0 source) (are_written ps && (list_any is_hole ps || is_path source)) s.1
    (and_from (are_written ps) (list_any is_hole ps || is_path source)
    (and_from (list_all is_named ps) (list_all (is_single ps) (names_in ps) && nat_le 1 (length ps)) s.2
    (and_from (list_all (is_single ps) (names_in ps)) (nat_le 1 (length ps)) single (true_le 1 (length ps) (let lt = h.filled in omega (arith, lt)))))
    path) in
    let limits : AreLimits given ps (names_in ps) = λ n name limit at is.
    let w = wildcard_at p.wildcards n name (ap (λ (xs : List Text). slice_get xs n) (sym same) ∙ at) in
    h.read n w.0 limit w.1 ((h.limits n w.0 w.1).0 ∙ ap (λ (x : Text). limit_for given x (inline_limits x ps)) w.2 ∙ is) in
    let shape : p ≡ shape_from given ps = ap₂ (λ (qs : List Part) (ws : List Wildcard). let x : Shape = record { parts = qs; wildcards = ws } in x) parts wildcards in
    subst (Reads given source p) (sym s.0) (written, limits, shape)

pub reading_is_grammar : ReadingIsGrammar
reading_is_grammar given source = (from_written given source, from_grammar given source)

-- what is read is in the relation
pub pattern_by : {E : Type 0} (given : List Pair) (source : Text) (r : Result Shape E) → OnOk r (is_written source ≡ true) → IfOk r (λ p. p ≡ shape_of given source) →
    OnOk r (AreLimits given (pieces source) (names_in (pieces source))) → IfOk r (IsPattern given source is_path)
pattern_by given source (Ok p) written shape limits = subst (IsPattern given source is_path) (sym shape) (from_written given source written limits)
pattern_by given source (Err e) written shape limits = tt

-- what isn't written as a pattern isn't in it
pub none_by : (given : List Pair) (source : Text) → is_written source ≡ false → (p : Shape) → IsPattern given source is_path p → ⊥
none_by given source e p h = true≢false (sym (from_grammar given source p h).0 ∙ e)
