-- What is made of the paths that were found: records, entries, and the store.
use Rattle.std.proofs.Common.{◌≡◌, ℕ, ◌<◌, ◌^◌, Bool, true, false, ◌&&◌, ◌||◌, cond, List, [], ◌∷◌, ◌++◌, map, length, refl, sym, ap, ◌∙◌, Option, Some, None, arith, bytes_eq, append_assoc, length-append}
use Rattle.std.proofs.lemmas.List.{append-nil, map_push}
use Rattle.std.specs.Prelude.{IsSome, is_some, String, string_bytes, if◌then◌else◌, nat_le}
use Rattle.std.specs.Global.{Global}
use Rattle.std.specs.BTreeSet.{BTreeSet, contains_text}
use Rattle.std.specs.BTreeSet as sorted
use Rattle.std.specs.Cmp.Lexicographic.{slice_cmp}
use Rattle.std.specs.List.{list_any, filter, AllByRecursion}
use Rattle.std.specs.List.Sorted.{IsStrictlySortedBy}
use Rattle.std.specs.Ordering.{nat_cmp, is_eq}
use Rattle.std.specs.declared.cmp.Ordering.{Ordering}
use Rattle.std.specs.declared.cmp.Ordering.TheVariants.{Less}
use Rattle.std.specs.Str.{IsUtf8}
use Rattle.std.specs.String.{string_cmp}
use Rattle.std.proofs.lemmas.List.Kept.{IsStrictlySortedBy-filter}
use Rattle.std.proofs.lemmas.Map.Text.{btree_set_updates_text, is_eq-slice_cmp}
use Rattle.smk_base.specs.Path.{is_path, is_under}
use Rattle.smk_base.specs.Place.{name_of, record_place, mark_place, note_place, records_folder, marks_folder, notes_folder}
use Rattle.smk_base.proofs.Places.{and_first, same_place, place_itself}
use Rattle.smk_base.proofs.Under.{never_both}
use Rattle.smk_world.specs.declared.event.Node.{Node}
use Rattle.smk_world.specs.declared.event.Node.TheVariants.{Regular, Directory}
use Rattle.smk_world.specs.declared.event.NodeState.{NodeState}
use Rattle.smk_world.specs.World.{World, reading, is_named, folders_above}
use Rattle.smk_world.specs.Calls.{in_folder}
use Rattle.smk_world.specs.Trees.{Path, is_path_text}
use Rattle.smk_record.specs.declared.record.Record.{Record}
use Rattle.smk_record.specs.Records.{is_valid, are_rising, is_less}
use Rattle.smk_record.specs.Spelling.{IsReadAs, ReadsRecords, is_writable}
use Rattle.smk_record.proofs.Lists.{path_text}
use Rattle.smk_store.specs.declared.store.Entry.{Entry}
use Rattle.smk_store.specs.declared.store.Kept.{Kept}
use Rattle.smk_store.specs.declared.store.Kept.TheVariants.{Absent, Unreadable, Held}
use Rattle.smk_store.specs.Images.{Image, seen, stands, is_known, is_covered, for_path, kept_by}
use Rattle.smk_store.specs.Stores.{Known, known, AreKept, entry_of, is_covered_in}
use Rattle.smk_store.specs.Loading.{IsStoreOf, entry_at, entry_in, store_folder}
use Rattle.smk_store.specs.Walking.{HasAll, HasSigns, texts_of, path_in, known_all}

-- ## Records

pub path_found : (text p : Path) → p ≡ text → is_path text ≡ true → IsUtf8 text → Some p ≡ path_in text
path_found text p same is utf8 = ap (λ (q : Path). Some q) same ∙ sym (ap (λ (b : Bool). if b then Some text else None) (path_text text is utf8))

read_by : (read : List ℕ → Option Record) (bytes : List ℕ) (found given : Option Record) → IsReadAs bytes found → ReadsRecords read → length bytes < 2 ^ 64 → read bytes ≡ given → read bytes ≡ found
read_by read bytes (Some r) given says reads small e = (reads bytes r small).1 ((says r).0 refl)
read_by read bytes None None says reads small e = e
read_by read bytes None (Some r) says reads small e = let wrong : None ≡ Some r = (says r).1 ((reads bytes r small).0 e) in absurd cc

-- both readers of records find the same
pub read_same : (read : List ℕ → Option Record) (bytes : List ℕ) (found : Option Record) → IsReadAs bytes found → ReadsRecords read → length bytes < 2 ^ 64 → read bytes ≡ found
read_same read bytes found says reads small = read_by read bytes found (read bytes) says reads small refl

kept_when : (r : Record) (p : Path) (same valid : Bool) → same ≡ true → valid ≡ true → Held r ≡ (if same && valid then Held r else Unreadable)
kept_when r p true true e h = refl
kept_when r p true false e h = absurd (never_both false h refl)
kept_when r p false valid e h = absurd (never_both false e refl)

pub held_for : (read : List ℕ → Option Record) (p : Path) (bytes : List ℕ) (r : Record) → IsReadAs bytes (Some r) → bytes_eq r.path p ≡ true → ReadsRecords read → length bytes < 2 ^ 64 → Held r ≡ for_path p (read bytes)
held_for read p bytes r says same reads small =
    let valid : is_valid r ≡ true = and_first (is_valid r) (is_writable r) (((says r).0 refl).1) in
    kept_when r p (bytes_eq r.path p) (is_valid r) same valid ∙ sym (ap (for_path p) (read_same read bytes (Some r) says reads small))

pub record_under : (p : Path) → is_under (record_place p) store_folder ≡ true
record_under p = refl

-- ## Entries

pub all_still : (w v : World) (folder folder2 : Path) (found : Path → Bool) → v.nodes ≡ w.nodes → folder2 ≡ folder → HasAll v folder2 found → HasAll w folder found
all_still w v folder folder2 found same is h = λ p path.
    h p path ∙ ap (λ (f : Path). is_some (reading (v.nodes (in_folder f (name_of p))))) is ∙ ap (λ (n : Path → NodeState). is_some (reading (n (in_folder folder (name_of p))))) same

none_of : {A : Type 0} (o : Option A) → is_some o ≡ false → o ≡ None
none_of None h = refl
none_of (Some a) h = absurd (never_both true refl h)

module _ (read : List ℕ → Option Record) (w : World) (records marks notes : Path → Bool) (signs : HasSigns w records marks notes) (p : Path) (path : is_path_text p ≡ true) where
  pub kept_yes : (kept : Kept) → kept ≡ kept_by read p (reading (w.nodes (record_place p))) → kept ≡ (seen read w).kept p
  kept_yes kept h = h ∙ sym (ap (λ (b : Bool). if b then kept_by read p (reading (w.nodes (record_place p))) else Absent) path)

  pub record_stands : records p ≡ true → IsSome (reading (w.nodes (record_place p)))
  record_stands h = sym (signs.recorded p path) ∙ h

  pub kept_no : records p ≡ false → Absent ≡ (seen read w).kept p
  kept_no h =
      kept_yes Absent (ap (kept_by read p) (sym (none_of (reading (w.nodes (record_place p))) (sym (signs.recorded p path) ∙ h))))

  marked_is : marks p ≡ (seen read w).marked p
  marked_is = signs.marked p path ∙ sym (ap (λ (b : Bool). b && is_some (reading (w.nodes (mark_place p)))) path)

  noted_is : notes p ≡ (seen read w).noted p
  noted_is = signs.noted p path ∙ sym (ap (λ (b : Bool). b && is_some (reading (w.nodes (note_place p)))) path)

  pub entry_is : (kept : Kept) (marked noted : Bool) → kept ≡ (seen read w).kept p → marked ≡ marks p → noted ≡ notes p → record { kept = kept; marked = marked; noted = noted } ≡ entry_at (seen read w) p
  entry_is kept marked noted k m n = λ i. record { kept = k i; marked = (m ∙ marked_is) i; noted = (n ∙ noted_is) i }

-- ## Texts

bytes_sym : (a b : List ℕ) → bytes_eq a b ≡ bytes_eq b a
bytes_sym a b = by (bytes_eq a b) (bytes_eq b a) refl refl
  where
    by : (x y : Bool) → bytes_eq a b ≡ x → bytes_eq b a ≡ y → x ≡ y
    by true true e f = refl
    by false false e f = refl
    by true false e f = absurd (never_both (bytes_eq b a) (ap (λ (t : List ℕ). bytes_eq b t) (same_place a b e) ∙ place_itself b) f)
    by false true e f = absurd (never_both (bytes_eq a b) (ap (λ (t : List ℕ). bytes_eq a t) (same_place b a f) ∙ place_itself a) e)

pub contains_named : (q : Path) (keys : List (String Global)) → list_any (λ (k : String Global). is_eq (slice_cmp nat_cmp q (string_bytes k))) keys ≡ is_named q (texts_of keys)
contains_named q [] = refl
contains_named q (k ∷ keys) =
    ap (λ (b : Bool). b || list_any (λ (x : String Global). is_eq (slice_cmp nat_cmp q (string_bytes x))) keys) (is_eq-slice_cmp q (string_bytes k))
    ∙ ap (λ (b : Bool). bytes_eq q (string_bytes k) || b) (contains_named q keys)

cond_or : (a b : Bool) → cond a true b ≡ (a || b)
cond_or true b = refl
cond_or false b = refl

pub text_added : (s n : BTreeSet (String Global)) (bs text : List ℕ) → bs ≡ text
    → sorted.UpdatesBy string_cmp (λ (k : String Global). slice_cmp nat_cmp bs (string_bytes k)) s n true → (q : Path) → contains_text n q ≡ (bytes_eq q text || contains_text s q)
text_added s n bs text e updates q =
    btree_set_updates_text bs s n true updates q ∙ cond_or (bytes_eq bs q) (contains_text s q) ∙ ap (λ (t : List ℕ). bytes_eq t q || contains_text s q) e ∙ ap (λ (b : Bool). b || contains_text s q) (bytes_sym text q)

swap_or : (a b c : Bool) → ((a || b) || c) ≡ (b || (a || c))
swap_or true true c = refl
swap_or true false c = refl
swap_or false true c = refl
swap_or false false c = refl

or_last : (a : Bool) → (a || false) ≡ a
or_last true = refl
or_last false = refl

-- one text further, and the end
pub text_moved : (was now whole : Bool) (q : Path) (text : List ℕ) (ts rest : List (List ℕ)) → now ≡ (bytes_eq q text || was) → ts ≡ text ∷ rest → (was || is_named q ts) ≡ whole → (now || is_named q rest) ≡ whole
text_moved was now whole q text ts rest e at before =
    ap (λ (b : Bool). b || is_named q rest) e ∙ swap_or (bytes_eq q text) was (is_named q rest) ∙ ap (λ (l : List (List ℕ)). was || is_named q l) (sym at) ∙ before

pub texts_done : (now whole : Bool) (q : Path) (ts : List (List ℕ)) → ts ≡ [] → (now || is_named q ts) ≡ whole → now ≡ whole
texts_done now whole q ts none before = sym (or_last now) ∙ ap (λ (l : List (List ℕ)). now || is_named q l) (sym none) ∙ before

-- ## Order

less_is : (o : Ordering) → o ≡ Less → is_less o ≡ true
less_is o h = ap is_less h

both : (a b : Bool) → a ≡ true → b ≡ true → (a && b) ≡ true
both a b h k = ap (λ (v : Bool). v && b) h ∙ k

rising_texts : (ts : List Path) → IsStrictlySortedBy (slice_cmp nat_cmp) ts → are_rising ts ≡ true
unfolding IsStrictlySortedBy
rising_texts [] s = refl
rising_texts (p ∷ []) s = refl
rising_texts (p ∷ (q ∷ rest)) s = both (is_less (slice_cmp nat_cmp p q)) (are_rising (q ∷ rest)) (less_is (slice_cmp nat_cmp p q) s.0.0) (rising_texts (q ∷ rest) s.1)

above_texts : (k : String Global) (keys : List (String Global)) → AllByRecursion (λ y. string_cmp k y ≡ Less) keys → AllByRecursion (λ y. slice_cmp nat_cmp (string_bytes k) y ≡ Less) (texts_of keys)
above_texts k [] s = tt
above_texts k (x ∷ keys) s = (s.0, above_texts k keys s.1)

sorted_texts : (keys : List (String Global)) → IsStrictlySortedBy string_cmp keys → IsStrictlySortedBy (slice_cmp nat_cmp) (texts_of keys)
unfolding IsStrictlySortedBy
sorted_texts [] s = tt
sorted_texts (k ∷ keys) s = (above_texts k keys s.0, sorted_texts keys s.1)

pub paths_rise : (keys : List (String Global)) → IsStrictlySortedBy string_cmp keys → are_rising (filter is_path_text (texts_of keys)) ≡ true
paths_rise keys s = rising_texts (filter is_path_text (texts_of keys)) (IsStrictlySortedBy-filter (slice_cmp nat_cmp) is_path_text (texts_of keys) (sorted_texts keys s))

-- ## The store

pub known_map : (image : Image) (ps : List Path) → known ps (map (entry_at image) ps) ≡ known_all image ps
known_map image [] = refl
known_map image (p ∷ ps) = ap (λ (ks : List Known). record { path = p; entry = entry_at image p } ∷ ks) (known_map image ps)

entry_first : (image : Image) (p q : Path) (rest : Option Entry) (named same : Bool) → bytes_eq q p ≡ same → rest ≡ (if named then Some (entry_at image p) else None)
    → (if same then Some (entry_at image q) else rest) ≡ (if same || named then Some (entry_at image p) else None)
entry_first image p q rest named true e h = ap (λ (x : Path). Some (entry_at image x)) (same_place q p e)
entry_first image p q rest named false e h = h

entry_named : (image : Image) (ps : List Path) (p : Path) → entry_of (known_all image ps) p ≡ (if is_named p ps then Some (entry_at image p) else None)
entry_named image [] p = refl
entry_named image (q ∷ ps) p =
    entry_first image p q (entry_of (known_all image ps) p) (is_named p ps) (bytes_eq q p) refl (entry_named image ps p)
    ∙ ap (λ (b : Bool). if b || is_named p ps then Some (entry_at image p) else None) (bytes_sym q p)

named_first : (test : Path → Bool) (q p : Path) (more : List Path) (named passes : Bool) → test p ≡ passes → is_named q more ≡ (test q && named) → is_named q (cond passes (p ∷ more) more) ≡ (test q && (bytes_eq q p || named))
named_first test q p more named true e h = ap (λ (b : Bool). bytes_eq q p || b) h ∙ by (bytes_eq q p) refl
  where
    by : (b : Bool) → bytes_eq q p ≡ b → (b || (test q && named)) ≡ (test q && (b || named))
    by true f = sym (ap (λ (v : Bool). v && true) (ap test (same_place q p f) ∙ e))
    by false f = refl
named_first test q p more named false e h = h ∙ by (bytes_eq q p) refl
  where
    by : (b : Bool) → bytes_eq q p ≡ b → (test q && named) ≡ (test q && (b || named))
    by true f = let no_pass : test q ≡ false = ap test (same_place q p f) ∙ e in ap (λ (v : Bool). v && named) no_pass ∙ sym (ap (λ (v : Bool). v && true) no_pass)
    by false f = refl

pub named_filter : (test : Path → Bool) (q : Path) (ps : List Path) → is_named q (filter test ps) ≡ (test q && is_named q ps)
named_filter test q [] = none (test q)
  where
    none : (b : Bool) → false ≡ (b && false)
    none true = refl
    none false = refl
named_filter test q (p ∷ ps) = named_first test q p (filter test ps) (is_named q ps) (test p) refl (named_filter test q ps)

pub kept_stands : (read : List ℕ → Option Record) (p : Path) (n : Option Node) → stands (kept_by read p n) ≡ is_some n
kept_stands read p None = refl
kept_stands read p (Some Directory) = refl
kept_stands read p (Some (Regular bytes time read_only)) = limit (nat_le (length bytes) 33554432)
  where
    chosen : (r : Record) (b : Bool) → stands (if b then Held r else Unreadable) ≡ true
    chosen r true = refl
    chosen r false = refl

    for : (o : Option Record) → stands (for_path p o) ≡ true
    for None = refl
    for (Some r) = chosen r (bytes_eq r.path p && is_valid r)

    limit : (b : Bool) → stands (if b then for_path p (read bytes) else Unreadable) ≡ true
    limit true = for (read bytes)
    limit false = refl

pub known_signs : (path r m n : Bool) (kept : Kept) → (path ≡ true → stands kept ≡ r) → (path && (r || (m || n))) ≡ (stands (if path then kept else Absent) || ((path && m) || (path && n)))
known_signs true r m n kept h = ap (λ (b : Bool). b || (m || n)) (sym (h refl))
known_signs false r m n kept h = refl

any_same : (P Q : Path → Bool) (ps : List Path) → ((p : Path) → P p ≡ Q p) → list_any P ps ≡ list_any Q ps
any_same P Q [] h = refl
any_same P Q (p ∷ ps) h = ap (λ (b : Bool). b || list_any P ps) (h p) ∙ ap (λ (b : Bool). Q p || b) (any_same P Q ps h)

entry_told : (image : Image) (p : Path) (b : Bool) → is_some (if b then Some (entry_at image p) else None) ≡ b
entry_told image p true = refl
entry_told image p false = refl

-- what has the entries of an image covers what the image does
pub coverage : (image : Image) (ks : List Known) → ((p : Path) → entry_of ks p ≡ entry_in image p) → (p : Path) → is_covered_in ks p ≡ is_covered image p
coverage image ks same p =
    any_same (λ q. is_some (entry_of ks q)) (is_known image) (p ∷ folders_above p) (λ q. ap is_some (same q) ∙ entry_told image q (is_known image q))

same_and : (a b c : Bool) → (a ≡ true → b ≡ c) → (a && b) ≡ (a && c)
same_and true b c h = h refl
same_and false b c h = refl

module _ (read : List ℕ → Option Record) (w : World) (records marks notes : Path → Bool) (signs : HasSigns w records marks notes) (all : BTreeSet (String Global))
    (united : (q : Path) → contains_text all q ≡ (records q || (marks q || notes q))) where
  known_here : (p : Path) → is_named p (filter is_path_text (texts_of all.keys)) ≡ is_known (seen read w) p
  known_here p =
      named_filter is_path_text p (texts_of all.keys)
      ∙ ap (λ (b : Bool). is_path_text p && b) (sym (contains_named p all.keys) ∙ united p)
      ∙ same_and (is_path_text p) (records p || (marks p || notes p))
      (is_some (reading (w.nodes (record_place p))) || (is_some (reading (w.nodes (mark_place p))) || is_some (reading (w.nodes (note_place p)))))
      (λ path. ap (λ (b : Bool). b || (marks p || notes p)) (signs.recorded p path) ∙ ap (λ (b : Bool). is_some (reading (w.nodes (record_place p))) || (b || notes p)) (signs.marked p path)
      ∙ ap (λ (b : Bool). is_some (reading (w.nodes (record_place p))) || (is_some (reading (w.nodes (mark_place p))) || b)) (signs.noted p path))
      ∙ known_signs (is_path_text p) (is_some (reading (w.nodes (record_place p)))) (is_some (reading (w.nodes (mark_place p)))) (is_some (reading (w.nodes (note_place p))))
      (kept_by read p (reading (w.nodes (record_place p)))) (λ path. kept_stands read p (reading (w.nodes (record_place p))))

  -- the store of the paths that were found
  pub store_is : (store : List Known) → store ≡ known_all (seen read w) (filter is_path_text (texts_of all.keys)) → IsStoreOf (seen read w) store
  store_is store is = record { entries = entries; covered = coverage (seen read w) store entries }
    where
      entries : (p : Path) → entry_of store p ≡ entry_in (seen read w) p
      entries p =
          ap (λ (ks : List Known). entry_of ks p) is ∙ entry_named (seen read w) (filter is_path_text (texts_of all.keys)) p
          ∙ ap (λ (b : Bool). if b then Some (entry_at (seen read w) p) else None) (known_here p)

-- ## The list of paths

pub one_more : (paths : List Path) (text : Path) (rest ts whole : List Path) (path : Path) → Some path ≡ path_in text → ts ≡ text ∷ rest → paths ++ filter is_path_text ts ≡ whole → (paths ++ path ∷ []) ++ filter is_path_text rest ≡ whole
one_more paths text rest ts whole path is at before = by (is_path_text text) refl
  where
    by : (b : Bool) → is_path_text text ≡ b → (paths ++ path ∷ []) ++ filter is_path_text rest ≡ whole
    by true e =
        let same : path ≡ text = some_same (is ∙ ap (λ (v : Bool). if v then Some text else None) e) in
        append_assoc paths (path ∷ []) (filter is_path_text rest) ∙ ap (λ (q : Path). paths ++ q ∷ filter is_path_text rest) same
        ∙ ap (λ (v : Bool). paths ++ cond v (text ∷ filter is_path_text rest) (filter is_path_text rest)) (sym e) ∙ ap (λ (l : List Path). paths ++ filter is_path_text l) (sym at) ∙ before
      where
        some_same : Some path ≡ Some text → path ≡ text
        some_same h = cc
    by false e = absurd (wrong (is ∙ ap (λ (v : Bool). if v then Some text else None) e))
      where
        wrong : Some path ≡ None → ⊥
        wrong h = cc

pub all_found : (paths ts whole : List Path) → ts ≡ [] → paths ++ filter is_path_text ts ≡ whole → paths ≡ whole
all_found paths ts whole none before = sym (append-nil paths) ∙ ap (λ (l : List Path). paths ++ filter is_path_text l) (sym none) ∙ before

-- the path that was found is a text
pub is_text_path : (text path : Path) → Some path ≡ path_in text → is_path_text path ≡ true
is_text_path text path is = by (is_path_text text) refl
  where
    by : (b : Bool) → is_path_text text ≡ b → is_path_text path ≡ true
    by true e = ap is_path_text (same (is ∙ ap (λ (v : Bool). if v then Some text else None) e)) ∙ e
      where
        same : Some path ≡ Some text → path ≡ text
        same h = cc
    by false e = absurd (wrong (is ∙ ap (λ (v : Bool). if v then Some text else None) e))
      where
        wrong : Some path ≡ None → ⊥
        wrong h = cc

pub store_known : (image : Image) (store : List Known) (paths : List Path) (entries : List Entry) (whole : List Path) → store ≡ known paths entries → entries ≡ map (entry_at image) paths → paths ≡ whole → store ≡ known_all image whole
store_known image store paths entries whole is e p =
    is ∙ ap (known paths) e ∙ known_map image paths ∙ ap (known_all image) p

pub are_kept : (paths : List Path) (entries : List Entry) (keys : List (String Global)) → IsStrictlySortedBy string_cmp keys → paths ≡ filter is_path_text (texts_of keys) → length entries ≡ length paths → AreKept paths entries
are_kept paths entries keys rises is each = record { rising = ap are_rising is ∙ paths_rise keys rises; each = each }

-- ## Worlds with the same nodes

pub entry_still : (read : List ℕ → Option Record) (w v : World) (p : Path) → v.nodes ≡ w.nodes → entry_at (seen read v) p ≡ entry_at (seen read w) p
entry_still read w v p same =
    ap (λ (n : Path → NodeState). entry_of_nodes n) same
  where
    entry_of_nodes : (Path → NodeState) → Entry
    entry_of_nodes n =
        record {
          kept = if is_path_text p then kept_by read p (reading (n (record_place p))) else Absent;
          marked = is_path_text p && is_some (reading (n (mark_place p)));
          noted = is_path_text p && is_some (reading (n (note_place p)));
        }

pub signs_still : (w v : World) (records marks notes : Path → Bool) → v.nodes ≡ w.nodes → HasSigns w records marks notes → HasSigns v records marks notes
signs_still w v records marks notes same signs =
    record {
      recorded = all_still v w records_folder records_folder records (sym same) refl signs.recorded;
      marked = all_still v w marks_folder marks_folder marks (sym same) refl signs.marked;
      noted = all_still v w notes_folder notes_folder notes (sym same) refl signs.noted;
    }

pub entry_pushed : (image : Image) (paths paths2 : List Path) (path : Path) (entries entries2 : List Entry) (entry : Entry) → paths2 ≡ paths ++ path ∷ [] → entries2 ≡ entries ++ entry ∷ [] → entries ≡ map (entry_at image) paths → entry ≡ entry_at image path
    → entries2 ≡ map (entry_at image) paths2
entry_pushed image paths paths2 path entries entries2 entry p e before is =
    e ∙ ap (λ (l : List Entry). l ++ entry ∷ []) before ∙ ap (λ (x : Entry). map (entry_at image) paths ++ x ∷ []) is ∙ sym (map_push (entry_at image) paths path) ∙ sym (ap (map (entry_at image)) p)

pub lengths_pushed : (paths paths2 : List Path) (path : Path) (entries entries2 : List Entry) (entry : Entry) → paths2 ≡ paths ++ path ∷ [] → entries2 ≡ entries ++ entry ∷ [] → length entries ≡ length paths → length entries2 ≡ length paths2
lengths_pushed paths paths2 path entries entries2 entry p e same = omega (arith, ap length p, ap length e, length-append paths (path ∷ []), length-append entries (entry ∷ []), same)

pub stored_still : (read : List ℕ → Option Record) (w v : World) (ps : List Path) → v.nodes ≡ w.nodes → known_all (seen read v) ps ≡ known_all (seen read w) ps
stored_still read w v [] same = refl
stored_still read w v (p ∷ ps) same = λ i. record { path = p; entry = entry_still read w v p same i } ∷ stored_still read w v ps same i
