-- Inputs with their stamps, recipes and records: what is read is spelled so, and what is spelled so is read.
use Rattle.std.proofs.Common.{◌≡◌, ℕ, zero, suc, ◌+◌, ◌<◌, ◌^◌, List, [], ◌∷◌, ◌++◌, map, length, take, drop, Some, None, refl, sym, ap, subst, ◌∙◌, append_assoc, arith, length-append, length-take, length-drop}
use Rattle.std.specs.Prelude.{decimal}
use Rattle.std.specs.List.{flat_map, zip}
use Rattle.std.proofs.lemmas.List.{drop_at, take-append-drop}
use Rattle.std.proofs.lemmas.List.Concat.{flat_map-cons}
use Rattle.smk_base.specs.declared.tree.Pair.{Pair}
use Rattle.smk_world.specs.declared.recipe.Values.{Values}
use Rattle.smk_world.specs.declared.recipe.Item.{Item}
use Rattle.smk_world.specs.declared.recipe.Out.{Out}
use Rattle.smk_world.specs.declared.recipe.OutItem.{OutItem}
use Rattle.smk_world.specs.declared.recipe.Recipe.{Recipe}
use Rattle.smk_world.specs.Trees.{Each, Path}
use Rattle.smk_record.specs.declared.record.Stamp.{Stamp}
use Rattle.smk_record.specs.declared.record.Member.{Member}
use Rattle.smk_record.specs.Spelling.{num, text, list, stamp, stamped_paths, items, pair, values, out_item}
use Rattle.smk_record.specs.Reading.{◌>>=◌, Reader, Taken, number_in, text_in, path_in, both_in, some_in, list_in, each_in, stamp_in, stamped_in, alone, all, item_in, inputs_in, paired, recipe_in, pair_in, values_in, out_item_in}
use Rattle.smk_record.proofs.Inverts.{Inverts, bind_some, some_is, shorter, IsText, IsPathText, number_found, num_again, some_found, some_again, some_long, text_inverts, path_inverts, StampFits, stamp_inverts, both_inverts, list_inverts, pair_inverts, values_inverts, out_item_inverts}

-- ---- many values with stamps

abbrev firsts : {A B : Type 0} → List (A × B) → List A
firsts {A} {B} zs = map (λ (z : A × B). z.0) zs

abbrev stamps_in : {A B : Type 0} → (B → List Stamp) → List (A × B) → List Stamp
stamps_in {A} {B} stamps zs = flat_map (λ (z : A × B). stamps z.1) zs

abbrev parted : {A B : Type 0} → (B → List Stamp) → Taken (List (A × B)) → Taken (List A × List Stamp)
parted stamps read = read >>= λ x. Some ((firsts x.0, stamps_in stamps x.0), x.1)

abbrev parts_of : {A : Type 0} → List A → List Stamp → List ℕ → Taken (List A × List Stamp)
parts_of xs ss rest = Some ((xs, ss), rest)

parted_more : {A B : Type 0} (stamps : B → List Stamp) (z : A × B) (read : Taken (List (A × B)))
    → (parted stamps read >>= λ others. Some ((z.0 ∷ others.0.0, stamps z.1 ++ others.0.1), others.1)) ≡ parted stamps (read >>= λ others. Some (z ∷ others.0, others.1))
parted_more {A} {B} stamps z (Some x) = ap (λ ss. parts_of (z.0 ∷ firsts x.0) ss x.1) (sym (flat_map-cons (λ (y : A × B). stamps y.1) z x.0))
parted_more stamps z None = refl

each_by : {A B : Type 0} (stamps : B → List Stamp) (one : Reader (A × B)) (n : ℕ) (o : Taken (A × B)) → ((bytes : List ℕ) → each_in stamps one n bytes ≡ parted stamps (some_in one n bytes))
    → (o >>= λ first. each_in stamps one n first.1 >>= λ others. Some ((first.0.0 ∷ others.0.0, stamps first.0.1 ++ others.0.1), others.1))
    ≡ parted stamps (o >>= λ first. some_in one n first.1 >>= λ others. Some (first.0 ∷ others.0, others.1))
each_by stamps one n (Some x) more = ap (λ r. r >>= λ others. Some ((x.0.0 ∷ others.0.0, stamps x.0.1 ++ others.0.1), others.1)) (more x.1) ∙ parted_more stamps x.0 (some_in one n x.1)
each_by stamps one n None more = refl

each_is : {A B : Type 0} (stamps : B → List Stamp) (one : Reader (A × B)) (n : ℕ) (bytes : List ℕ) → each_in stamps one n bytes ≡ parted stamps (some_in one n bytes)
unfolding each_in some_in
each_is stamps one zero bytes = refl
each_is stamps one (suc n) bytes = each_by stamps one n (one bytes) (each_is stamps one n)

each_found : {A B : Type 0} (stamps : B → List Stamp) (spell : A × B → List ℕ) (P : A × B → Type 0) (one : Reader (A × B)) → Inverts spell P one → (n : ℕ) (bytes : List ℕ) (xs : List A) (ss : List Stamp) (rest : List ℕ)
    → each_in stamps one n bytes ≡ Some ((xs, ss), rest) → (zs : List (A × B)) × (firsts zs ≡ xs) × (stamps_in stamps zs ≡ ss) × (bytes ≡ flat_map spell zs ++ rest) × (length zs ≡ n) × Each P zs
each_found {A} {B} stamps spell P one i n bytes xs ss rest e =
    let a = bind_some (some_in one n bytes) (λ x. Some ((firsts x.0, stamps_in stamps x.0), x.1)) ((xs, ss), rest) (sym (each_is stamps one n bytes) ∙ e) in
    let p = some_is ((firsts a.0.0, stamps_in stamps a.0.0), a.0.1) ((xs, ss), rest) a.2 in
    let f = some_found spell P one i n bytes a.0.0 a.0.1 a.1 in
    let r : a.0.1 ≡ rest = ap (λ (q : (List A × List Stamp) × List ℕ). q.1) p in
    (a.0.0, ap (λ (q : (List A × List Stamp) × List ℕ). q.0.0) p, ap (λ (q : (List A × List Stamp) × List ℕ). q.0.1) p, f.0 ∙ ap (λ t. flat_map spell a.0.0 ++ t) r, f.1, f.2)

each_again : {A B : Type 0} (stamps : B → List Stamp) (spell : A × B → List ℕ) (P : A × B → Type 0) (one : Reader (A × B)) → Inverts spell P one → (zs : List (A × B)) (rest : List ℕ)
    → Each P zs → length (flat_map spell zs ++ rest) < 2 ^ 64 → each_in stamps one (length zs) (flat_map spell zs ++ rest) ≡ Some ((firsts zs, stamps_in stamps zs), rest)
each_again {A} {B} stamps spell P one i zs rest h lt = each_is stamps one (length zs) (flat_map spell zs ++ rest) ∙ ap (λ r. parted stamps r) (some_again spell P one i zs rest h lt)

-- ---- an item

abbrev stamped_text : Path × Stamp → List ℕ
stamped_text z = text z.0 ++ stamp z.1

abbrev StampedFits : Path × Stamp → Type 0
StampedFits z = IsPathText z.0 × StampFits z.1

stamped_inverts : Inverts stamped_text StampedFits stamped_in
unfolding stamped_in
stamped_inverts = both_inverts (λ path s. (path, s)) (λ z. z.0) (λ z. z.1) text IsPathText path_in stamp StampFits stamp_in (λ a b. refl) (λ a b. refl) (λ c. refl) path_inverts stamp_inverts

-- the paths and their stamps, as they are spelled
stamped_flat : (zs : List (Path × Stamp)) → stamped_paths (firsts zs) (stamps_in alone zs) ≡ flat_map stamped_text zs
stamped_flat [] = refl
stamped_flat (z ∷ zs) =
    ap (λ ss. stamped_paths (z.0 ∷ firsts zs) ss) (flat_map-cons (λ (y : Path × Stamp). alone y.1) z zs)
    ∙ ap (λ t. text z.0 ++ (stamp z.1 ++ t)) (stamped_flat zs)
    ∙ sym (append_assoc (text z.0) (stamp z.1) (flat_map stamped_text zs))
    ∙ sym (flat_map-cons stamped_text z zs)

paths_fit : (zs : List (Path × Stamp)) → Each StampedFits zs → Each IsPathText (firsts zs)
paths_fit [] h = tt
paths_fit (z ∷ zs) h = (h.0.0, paths_fit zs h.1)

stamps_fit : (zs : List (Path × Stamp)) → Each StampedFits zs → Each StampFits (stamps_in alone zs)
stamps_fit [] h = tt
stamps_fit (z ∷ zs) h = subst (Each StampFits) (sym (flat_map-cons (λ (y : Path × Stamp). alone y.1) z zs)) (h.0.1, stamps_fit zs h.1)

as_many : (zs : List (Path × Stamp)) → length (stamps_in alone zs) ≡ length (firsts zs)
as_many [] = refl
as_many (z ∷ zs) = ap length (flat_map-cons (λ (y : Path × Stamp). alone y.1) z zs) ∙ ap suc (as_many zs)

zip_fits : (ps : List Path) (ss : List Stamp) → Each IsPathText ps → Each StampFits ss → Each StampedFits (zip ps ss)
zip_fits [] ss h k = tt
zip_fits (p ∷ ps) [] h k = tt
zip_fits (p ∷ ps) (s ∷ ss) h k = ((h.0, k.0), zip_fits ps ss h.1 k.1)

zip_firsts : (ps : List Path) (ss : List Stamp) → length ss ≡ length ps → firsts (zip ps ss) ≡ ps
zip_firsts [] ss e = refl
zip_firsts (p ∷ ps) [] e = absurd (omega arith)
zip_firsts (p ∷ ps) (s ∷ ss) e = ap (λ t. p ∷ t) (zip_firsts ps ss (omega arith))

zip_stamps : (ps : List Path) (ss : List Stamp) → length ss ≡ length ps → stamps_in alone (zip ps ss) ≡ ss
zip_stamps [] [] e = refl
zip_stamps [] (s ∷ ss) e = absurd (omega arith)
zip_stamps (p ∷ ps) [] e = absurd (omega arith)
zip_stamps (p ∷ ps) (s ∷ ss) e = flat_map-cons (λ (y : Path × Stamp). alone y.1) (p, s) (zip ps ss) ∙ ap (λ t. s ∷ t) (zip_stamps ps ss (omega arith))

zip_long : (ps : List Path) (ss : List Stamp) → length ss ≡ length ps → length (zip ps ss) ≡ length ps
zip_long [] ss e = refl
zip_long (p ∷ ps) [] e = absurd (omega arith)
zip_long (p ∷ ps) (s ∷ ss) e = ap suc (zip_long ps ss (omega arith))

abbrev item_text : Item × List Stamp → List ℕ
item_text x = text x.0.name ++ (num (length x.0.paths) ++ stamped_paths x.0.paths x.1)

pub record ItemFits (x : Item × List Stamp) : Type 0 where
  pub name : IsText x.0.name
  pub paths : Each IsPathText x.0.paths
  pub stamps : Each StampFits x.1
  pub each : length x.1 ≡ length x.0.paths

abbrev made_item : List ℕ → List Path × List Stamp → List ℕ → Taken (Item × List Stamp)
made_item name x rest = Some ((record { name = name; paths = x.0 }, x.1), rest)

firsts_long : {A B : Type 0} (zs : List (A × B)) → length (firsts zs) ≡ length zs
firsts_long [] = refl
firsts_long (z ∷ zs) = ap suc (firsts_long zs)

item_found : (bytes : List ℕ) (x : Item × List Stamp) (rest : List ℕ) → item_in bytes ≡ Some (x, rest) → (bytes ≡ item_text x ++ rest) × ItemFits x
unfolding item_in
item_found bytes x rest e =
    let a = bind_some (text_in bytes) (λ name. number_in 10 name.1 >>= λ n. each_in alone stamped_in n.0 n.1 >>= λ paths. made_item name.0 paths.0 paths.1) (x, rest) e in
    let b = bind_some (number_in 10 a.0.1) (λ n. each_in alone stamped_in n.0 n.1 >>= λ paths. made_item a.0.0 paths.0 paths.1) (x, rest) a.2 in
    let c = bind_some (each_in alone stamped_in b.0.0 b.0.1) (λ paths. made_item a.0.0 paths.0 paths.1) (x, rest) b.2 in
    let ps = c.0.0.0 in
    let ss = c.0.0.1 in
    let one = text_inverts.found bytes a.0.0 a.0.1 a.1 in
    let two = number_found 10 a.0.1 b.0.0 b.0.1 b.1 in
    let f = each_found alone stamped_text StampedFits stamped_in stamped_inverts b.0.0 b.0.1 ps ss c.0.1 c.1 in
    let zs = f.0 in
    let count : b.0.0 ≡ length ps = sym f.4 ∙ sym (firsts_long zs) ∙ ap length f.1 in
    let flat : flat_map stamped_text zs ≡ stamped_paths ps ss = sym (stamped_flat zs) ∙ ap (λ q. stamped_paths q (stamps_in alone zs)) f.1 ∙ ap (λ t. stamped_paths ps t) f.2 in
    let tail : b.0.1 ≡ stamped_paths ps ss ++ c.0.1 = f.3 ∙ ap (λ t. t ++ c.0.1) flat in
    let rest2 : a.0.1 ≡ (num (length ps) ++ stamped_paths ps ss) ++ c.0.1 =
    two.0 ∙ sym (append_assoc (decimal b.0.0) (10 ∷ []) b.0.1) ∙ ap (λ k. num k ++ b.0.1) count ∙ ap (λ t. num (length ps) ++ t) tail ∙ sym (append_assoc (num (length ps)) (stamped_paths ps ss) c.0.1) in
    let whole : bytes ≡ (text a.0.0 ++ (num (length ps) ++ stamped_paths ps ss)) ++ c.0.1 =
    one.0 ∙ ap (λ t. text a.0.0 ++ t) rest2 ∙ sym (append_assoc (text a.0.0) (num (length ps) ++ stamped_paths ps ss) c.0.1) in
    let made : (Item × List Stamp) × List ℕ = ((record { name = a.0.0; paths = ps }, ss), c.0.1) in
    let fits : ItemFits made.0 = record {
      name = one.1;
      paths = subst (Each IsPathText) f.1 (paths_fit zs f.5);
      stamps = subst (Each StampFits) f.2 (stamps_fit zs f.5);
      each = ap length (sym f.2) ∙ as_many zs ∙ ap length f.1;
    } in
    subst (λ (y : (Item × List Stamp) × List ℕ). (bytes ≡ item_text y.0 ++ y.1) × ItemFits y.0) (some_is made (x, rest) c.2) (whole, fits)

item_again : (x : Item × List Stamp) (rest : List ℕ) → ItemFits x → length (item_text x ++ rest) < 2 ^ 64 → item_in (item_text x ++ rest) ≡ Some (x, rest)
unfolding item_in
item_again x rest fits lt =
    let i = x.0 in
    let ss = x.1 in
    let zs = zip i.paths ss in
    let regrouped : item_text x ++ rest ≡ text i.name ++ (num (length i.paths) ++ (stamped_paths i.paths ss ++ rest)) =
    append_assoc (text i.name) (num (length i.paths) ++ stamped_paths i.paths ss) rest ∙ ap (λ t. text i.name ++ t) (append_assoc (num (length i.paths)) (stamped_paths i.paths ss) rest) in
    let flat : stamped_paths i.paths ss ≡ flat_map stamped_text zs = ap (λ q. stamped_paths q ss) (sym (zip_firsts i.paths ss fits.each)) ∙ ap (λ t. stamped_paths (firsts zs) t) (sym (zip_stamps i.paths ss fits.each)) ∙ stamped_flat zs in
    let lt2 : length (text i.name ++ (num (length i.paths) ++ (stamped_paths i.paths ss ++ rest))) < 2 ^ 64 = subst (λ t. length t < 2 ^ 64) regrouped lt in
    let lt3 = shorter (text i.name) (num (length i.paths) ++ (stamped_paths i.paths ss ++ rest)) (2 ^ 64) lt2 in
    let lt4 = shorter (num (length i.paths)) (stamped_paths i.paths ss ++ rest) (2 ^ 64) lt3 in
    let lt5 : length (flat_map stamped_text zs ++ rest) < 2 ^ 64 = subst (λ t. length (t ++ rest) < 2 ^ 64) flat lt4 in
    let small : length i.paths < 2 ^ 64 = omega (arith, lt5, length-append (flat_map stamped_text zs) rest, some_long stamped_text stamped_inverts.some zs, zip_long i.paths ss fits.each) in
    let read : each_in alone stamped_in (length i.paths) (stamped_paths i.paths ss ++ rest) ≡ Some ((i.paths, ss), rest) =
    ap (λ k. each_in alone stamped_in k (stamped_paths i.paths ss ++ rest)) (sym (zip_long i.paths ss fits.each))
    ∙ ap (λ t. each_in alone stamped_in (length zs) (t ++ rest)) flat
    ∙ each_again alone stamped_text StampedFits stamped_in stamped_inverts zs rest (zip_fits i.paths ss fits.paths fits.stamps) lt5
    ∙ ap (λ q. parts_of q (stamps_in alone zs) rest) (zip_firsts i.paths ss fits.each) ∙ ap (λ t. parts_of i.paths t rest) (zip_stamps i.paths ss fits.each) in
    ap item_in regrouped ∙ rw (text_inverts.again i.name (num (length i.paths) ++ (stamped_paths i.paths ss ++ rest)) fits.name lt2, num_again (length i.paths) (stamped_paths i.paths ss ++ rest) small, read) refl

text_some : (t u : List ℕ) → 0 < length (text t ++ u)
text_some t u = omega (arith, length-append (text t) u, text_inverts.some t)

pub item_inverts : Inverts item_text ItemFits item_in
item_inverts = record { found = item_found; again = item_again; some = λ x. text_some x.0.name (num (length x.0.paths) ++ stamped_paths x.0.paths x.1) }

-- ---- all inputs

stamped_front : (ps : List Path) (ss more : List Stamp) → length ss ≡ length ps → stamped_paths ps (ss ++ more) ≡ stamped_paths ps ss
stamped_front [] ss more e = refl
stamped_front (p ∷ ps) [] more e = absurd (omega arith)
stamped_front (p ∷ ps) (s ∷ ss) more e = ap (λ t. text p ++ (stamp s ++ t)) (stamped_front ps ss more (omega arith))

abbrev item_then : Item → List Stamp → List ℕ → List ℕ
item_then i ss t = (text i.name ++ (num (length i.paths) ++ stamped_paths i.paths ss)) ++ t

items_flat : (zs : List (Item × List Stamp)) → Each ItemFits zs → items (firsts zs) (stamps_in all zs) ≡ flat_map item_text zs
items_flat [] h = refl
items_flat (z ∷ zs) h =
    let more = stamps_in all zs in
    let all_stamps : stamps_in all (z ∷ zs) ≡ z.1 ++ more = flat_map-cons (λ (y : Item × List Stamp). all y.1) z zs in
    ap (λ ss. items (z.0 ∷ firsts zs) ss) all_stamps
    ∙ ap (λ t. (text z.0.name ++ (num (length z.0.paths) ++ t)) ++ items (firsts zs) (drop (length z.0.paths) (z.1 ++ more))) (stamped_front z.0.paths z.1 more h.0.each)
    ∙ ap (λ ss. item_then z.0 z.1 (items (firsts zs) ss)) (drop_at z.1 more (length z.0.paths) h.0.each)
    ∙ ap (λ t. item_then z.0 z.1 t) (items_flat zs h.1)
    ∙ sym (flat_map-cons item_text z zs)

abbrev pub paths_in : List Item → List Path
paths_in is = flat_map (λ (i : Item). i.paths) is

abbrev pub IsGoodItem : Item → Type 0
IsGoodItem i = IsText i.name × Each IsPathText i.paths

pub record InputsFit (x : List Item × List Stamp) : Type 0 where
  pub items : Each IsGoodItem x.0
  pub stamps : Each StampFits x.1
  pub count : length x.1 ≡ length (paths_in x.0)

each_append : {A : Type 0} (P : A → Type 0) (xs ys : List A) → Each P xs → Each P ys → Each P (xs ++ ys)
each_append P [] ys h k = k
each_append P (x ∷ xs) ys h k = (h.0, each_append P xs ys h.1 k)

each_front : {A : Type 0} (P : A → Type 0) (n : ℕ) (xs : List A) → Each P xs → Each P (take n xs)
each_front P zero xs h = tt
each_front P (suc n) [] h = tt
each_front P (suc n) (x ∷ xs) h = (h.0, each_front P n xs h.1)

each_back : {A : Type 0} (P : A → Type 0) (n : ℕ) (xs : List A) → Each P xs → Each P (drop n xs)
each_back P zero xs h = h
each_back P (suc n) [] h = tt
each_back P (suc n) (x ∷ xs) h = each_back P n xs h.1

good_items : (zs : List (Item × List Stamp)) → Each ItemFits zs → Each IsGoodItem (firsts zs)
good_items [] h = tt
good_items (z ∷ zs) h = ((h.0.name, h.0.paths), good_items zs h.1)

small_stamps : (zs : List (Item × List Stamp)) → Each ItemFits zs → Each StampFits (stamps_in all zs)
small_stamps [] h = tt
small_stamps (z ∷ zs) h = subst (Each StampFits) (sym (flat_map-cons (λ (y : Item × List Stamp). all y.1) z zs)) (each_append StampFits z.1 (stamps_in all zs) h.0.stamps (small_stamps zs h.1))

count_stamps : (zs : List (Item × List Stamp)) → Each ItemFits zs → length (stamps_in all zs) ≡ length (paths_in (firsts zs))
count_stamps [] h = refl
count_stamps (z ∷ zs) h =
    omega (arith, ap length (flat_map-cons (λ (y : Item × List Stamp). all y.1) z zs), length-append z.1 (stamps_in all zs), ap length (flat_map-cons (λ (i : Item). i.paths) z.0 (firsts zs)), length-append z.0.paths (paths_in (firsts zs)), h.0.each, count_stamps zs h.1)

-- each item with the stamps of its own paths
split : List Item → List Stamp → List (Item × List Stamp)
split [] ss = []
split (i ∷ is) ss = (i, take (length i.paths) ss) ∷ split is (drop (length i.paths) ss)

split_firsts : (is : List Item) (ss : List Stamp) → firsts (split is ss) ≡ is
unfolding split
split_firsts [] ss = refl
split_firsts (i ∷ is) ss = ap (λ t. i ∷ t) (split_firsts is (drop (length i.paths) ss))

split_long : (is : List Item) (ss : List Stamp) → length (split is ss) ≡ length is
unfolding split
split_long [] ss = refl
split_long (i ∷ is) ss = ap suc (split_long is (drop (length i.paths) ss))

paths_count : (i : Item) (is : List Item) → length (paths_in (i ∷ is)) ≡ length i.paths + length (paths_in is)
paths_count i is = ap length (flat_map-cons (λ (j : Item). j.paths) i is) ∙ length-append i.paths (paths_in is)

split_stamps : (is : List Item) (ss : List Stamp) → length ss ≡ length (paths_in is) → stamps_in all (split is ss) ≡ ss
unfolding split
split_stamps [] [] e = refl
split_stamps [] (s ∷ ss) e = absurd (omega arith)
split_stamps (i ∷ is) ss e =
    flat_map-cons (λ (y : Item × List Stamp). all y.1) (i, take (length i.paths) ss) (split is (drop (length i.paths) ss))
    ∙ ap (λ t. take (length i.paths) ss ++ t) (split_stamps is (drop (length i.paths) ss) (omega (arith, length-drop (length i.paths) ss, paths_count i is, e)))
    ∙ take-append-drop (length i.paths) ss

split_fits : (is : List Item) (ss : List Stamp) → Each IsGoodItem is → Each StampFits ss → length ss ≡ length (paths_in is) → Each ItemFits (split is ss)
unfolding split
split_fits [] ss h k e = tt
split_fits (i ∷ is) ss h k e = (
  record { name = h.0.0; paths = h.0.1; stamps = each_front StampFits (length i.paths) ss k; each = omega (arith, length-take (length i.paths) ss, paths_count i is, e) },
  split_fits is (drop (length i.paths) ss) h.1 (each_back StampFits (length i.paths) ss k) (omega (arith, length-drop (length i.paths) ss, paths_count i is, e)),
)

abbrev pub inputs_text : List Item × List Stamp → List ℕ
inputs_text x = num (length x.0) ++ items x.0 x.1

inputs_found : (bytes : List ℕ) (x : List Item × List Stamp) (rest : List ℕ) → inputs_in bytes ≡ Some (x, rest) → (bytes ≡ inputs_text x ++ rest) × InputsFit x
unfolding inputs_in
inputs_found bytes x rest e =
    let a = bind_some (number_in 10 bytes) (λ n. each_in all item_in n.0 n.1) (x, rest) e in
    let one = number_found 10 bytes a.0.0 a.0.1 a.1 in
    let f = each_found all item_text ItemFits item_in item_inverts a.0.0 a.0.1 x.0 x.1 rest a.2 in
    let zs = f.0 in
    let count : a.0.0 ≡ length x.0 = sym f.4 ∙ sym (firsts_long zs) ∙ ap length f.1 in
    let flat : flat_map item_text zs ≡ items x.0 x.1 = sym (items_flat zs f.5) ∙ ap (λ q. items q (stamps_in all zs)) f.1 ∙ ap (λ t. items x.0 t) f.2 in (
      one.0 ∙ sym (append_assoc (decimal a.0.0) (10 ∷ []) a.0.1) ∙ ap (λ k. num k ++ a.0.1) count ∙ ap (λ t. num (length x.0) ++ t) (f.3 ∙ ap (λ t. t ++ rest) flat) ∙ sym (append_assoc (num (length x.0)) (items x.0 x.1) rest),
      record {
        items = subst (Each IsGoodItem) f.1 (good_items zs f.5);
        stamps = subst (Each StampFits) f.2 (small_stamps zs f.5);
        count = ap length (sym f.2) ∙ count_stamps zs f.5 ∙ ap (λ is. length (paths_in is)) f.1;
      },
    )

inputs_again : (x : List Item × List Stamp) (rest : List ℕ) → InputsFit x → length (inputs_text x ++ rest) < 2 ^ 64 → inputs_in (inputs_text x ++ rest) ≡ Some (x, rest)
unfolding inputs_in
inputs_again x rest fits lt =
    let is = x.0 in
    let ss = x.1 in
    let zs = split is ss in
    let regrouped : inputs_text x ++ rest ≡ num (length is) ++ (items is ss ++ rest) = append_assoc (num (length is)) (items is ss) rest in
    let each = split_fits is ss fits.items fits.stamps fits.count in
    let flat : items is ss ≡ flat_map item_text zs = ap (λ q. items q ss) (sym (split_firsts is ss)) ∙ ap (λ t. items (firsts zs) t) (sym (split_stamps is ss fits.count)) ∙ items_flat zs each in
    let lt2 = shorter (num (length is)) (items is ss ++ rest) (2 ^ 64) (subst (λ t. length t < 2 ^ 64) regrouped lt) in
    let lt3 : length (flat_map item_text zs ++ rest) < 2 ^ 64 = subst (λ t. length (t ++ rest) < 2 ^ 64) flat lt2 in
    let small : length is < 2 ^ 64 = omega (arith, lt3, length-append (flat_map item_text zs) rest, some_long item_text item_inverts.some zs, split_long is ss) in
    let read : each_in all item_in (length is) (items is ss ++ rest) ≡ Some ((is, ss), rest) =
    ap (λ k. each_in all item_in k (items is ss ++ rest)) (sym (split_long is ss))
    ∙ ap (λ t. each_in all item_in (length zs) (t ++ rest)) flat
    ∙ each_again all item_text ItemFits item_in item_inverts zs rest each lt3
    ∙ ap (λ q. parts_of q (stamps_in all zs) rest) (split_firsts is ss) ∙ ap (λ t. parts_of is t rest) (split_stamps is ss fits.count) in
    ap inputs_in regrouped ∙ rw (num_again (length is) (items is ss ++ rest) small) read

inputs_inverts : Inverts inputs_text InputsFit inputs_in
inputs_inverts = record { found = inputs_found; again = inputs_again; some = λ x. omega (arith, length-append (num (length x.0)) (items x.0 x.1), length-append (decimal (length x.0)) (10 ∷ [])) }

-- ---- recipes and records

abbrev first_of : {A B : Type 0} → A × B → A
first_of x = x.0

abbrev second_of : {A B : Type 0} → A × B → B
second_of x = x.1

pub paired_inverts : {A B : Type 0} (p : A → List ℕ) (P : A → Type 0) (r : Reader A) (q : B → List ℕ) (Q : B → Type 0) (s : Reader B) → Inverts p P r → Inverts q Q s → Inverts (λ (x : A × B). p x.0 ++ q x.1) (λ (x : A × B). P x.0 × Q x.1) (both_in paired r s)
paired_inverts {A} {B} p P r q Q s first second = both_inverts {C = A × B} paired first_of second_of p P r q Q s (λ a b. refl) (λ a b. refl) (λ c. refl) first second

abbrev pub PairFits : Pair → Type 0
PairFits p = IsText p.name × IsText p.value

abbrev pub ValuesFit : Values → Type 0
ValuesFit v = IsText v.name × Each IsText v.values

abbrev pub OutFits : Out → Type 0
OutFits o = Unit {0} × IsPathText o.path

abbrev pub OutItemFits : OutItem → Type 0
OutItemFits o = IsText o.name × Each OutFits o.outs

abbrev pub MemberFits : Member → Type 0
MemberFits m = Unit {0} × IsPathText m.name

abbrev RecipeParts : Type 0
RecipeParts = List Pair × (List Values × ((List Item × List Stamp) × List OutItem))

abbrev parts_text : RecipeParts → List ℕ
parts_text x = list pair x.0 ++ (list values x.1.0 ++ (inputs_text x.1.1.0 ++ list out_item x.1.1.1))

abbrev PartsFit : RecipeParts → Type 0
PartsFit x = Each PairFits x.0 × (Each ValuesFit x.1.0 × (InputsFit x.1.1.0 × Each OutItemFits x.1.1.1))

abbrev parts_in : Reader RecipeParts
parts_in = both_in paired (list_in pair_in) (both_in paired (list_in values_in) (both_in paired inputs_in (list_in out_item_in)))

parts_inverts : Inverts parts_text PartsFit parts_in
parts_inverts =
    paired_inverts (list pair) (Each PairFits) (list_in pair_in) (λ x. list values x.0 ++ (inputs_text x.1.0 ++ list out_item x.1.1)) (λ x. Each ValuesFit x.0 × (InputsFit x.1.0 × Each OutItemFits x.1.1)) (both_in paired (list_in values_in) (both_in paired inputs_in (list_in out_item_in)))
    (list_inverts pair PairFits pair_in pair_inverts)
    (paired_inverts (list values) (Each ValuesFit) (list_in values_in) (λ x. inputs_text x.0 ++ list out_item x.1) (λ x. InputsFit x.0 × Each OutItemFits x.1) (both_in paired inputs_in (list_in out_item_in))
    (list_inverts values ValuesFit values_in values_inverts)
    (paired_inverts inputs_text InputsFit inputs_in (list out_item) (Each OutItemFits) (list_in out_item_in) inputs_inverts (list_inverts out_item OutItemFits out_item_in out_item_inverts)))

abbrev recipe_parts : Recipe × List Stamp → RecipeParts
recipe_parts x = (x.0.wildcards, (x.0.params, ((x.0.inputs, x.1), x.0.outputs)))

abbrev pub recipe_text : Recipe × List Stamp → List ℕ
recipe_text x = text x.0.template ++ parts_text (recipe_parts x)

abbrev pub RecipeFits : Recipe × List Stamp → Type 0
RecipeFits x = IsText x.0.template × PartsFit (recipe_parts x)

pub recipe_inverts : Inverts recipe_text RecipeFits recipe_in
unfolding recipe_in
recipe_inverts =
    both_inverts (λ template x. (record { template = template; wildcards = x.0; params = x.1.0; inputs = x.1.1.0.0; outputs = x.1.1.1 }, x.1.1.0.1)) (λ x. x.0.template) recipe_parts
    text IsText text_in parts_text PartsFit parts_in (λ a b. refl) (λ a b. refl) (λ c. refl) text_inverts parts_inverts
