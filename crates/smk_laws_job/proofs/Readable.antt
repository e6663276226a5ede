-- A job's record with the members of a directory is read as it was written, where the one without members may be written.
use Rattle.std.proofs.Common.{◌≡◌, ℕ, ◌+◌, ◌*◌, ◌≤◌, Bool, true, false, ◌&&◌, List, [], ◌∷◌, ◌++◌, map, length, refl, sym, ap, ◌∙◌, arith, length-append, bytes_eq, Option, Some, true≢false}
use Rattle.std.specs.Prelude.{nat_le, if◌then◌else◌, decimal, ◌==◌}
use Rattle.std.specs.List.{list_all, flat_map}
use Rattle.std.proofs.lemmas.Bool.{leb-true, le-leb}
use Rattle.std.proofs.lemmas.Fmt.{length-decimal-le}
use Rattle.std.proofs.lemmas.List.Concat.{flat_map-cons}
use Rattle.smk_base.specs.Path.{is_path}
use Rattle.smk_base.specs.declared.tree.Pair.{Pair}
use Rattle.smk_base.proofs.Places.{and_first, and_second, place_itself}
use Rattle.smk_base.proofs.Under.{both_true}
use Rattle.smk_world.specs.declared.event.Node.TheVariants.{Regular}
use Rattle.smk_world.specs.declared.recipe.Recipe.{Recipe}
use Rattle.smk_world.specs.World.{in_paths, out_paths}
use Rattle.smk_world.specs.Calls.{in_folder}
use Rattle.smk_world.specs.Trees.{Path, Each, among, folders_of, are_members, is_path_text, is_text}
use Rattle.smk_record.specs.declared.record.Stamp.{Stamp}
use Rattle.smk_record.specs.declared.record.Member.{Member}
use Rattle.smk_record.specs.declared.record.Record.{Record}
use Rattle.smk_record.specs.Records.{record_of, is_valid, is_earlier, are_rising, are_none, are_valid_members, is_format, is_in_format}
use Rattle.smk_record.specs.Spelling.{num, text, letter, member, list, head, spelling, is_writable, ReadsRecords}
use Rattle.smk_store.specs.declared.store.Kept.TheVariants.{Unreadable, Held}
use Rattle.smk_store.specs.Images.{kept_by, for_path}
use Rattle.smk_job.specs.Jobs.{is_long}

-- ## Lengths

digits : (n : ℕ) → n ≤ 20000 → length (decimal n) ≤ 5
digits n le = length-decimal-le 5 n (omega arith) (omega (arith, le)) (omega (arith, le))

num_short : (n : ℕ) → n ≤ 20000 → length (num n) ≤ 6
num_short n le = omega (arith, digits n le, length-append (decimal n) (10 ∷ []))

text_short : (t : List ℕ) → length t ≤ 1000 → length (text t) ≤ 1007
text_short t le =
    omega (arith, le, digits (length t) (omega (arith, le)), length-append (decimal (length t)) (58 ∷ (t ++ 10 ∷ [])), length-append t (10 ∷ []))

letter_short : (b : Bool) → length (letter b) ≤ 1
letter_short true = omega arith
letter_short false = omega arith

member_short : (m : Member) → length m.name ≤ 1000 → length (member m) ≤ 1008
member_short m le = omega (arith, letter_short m.folder, text_short m.name le, length-append (letter m.folder) (text m.name))

members_short : (ms : List Member) → Each (λ (m : Member). length m.name ≤ 1000) ms → length (flat_map member ms) ≤ 1008 * length ms
members_short [] h = omega arith
members_short (m ∷ ms) h =
    omega (arith, ap length (flat_map-cons member m ms), length-append (member m) (flat_map member ms), member_short m h.0, members_short ms h.1)

path_short : (p : Path) → is_path_text p ≡ true → length p ≤ 1000
path_short p h = leb-true (length p) 1000 (and_first (nat_le (length p) 1000) _ (and_first (is_path p) (is_text p) h))

names_short : (p : Path) (ms : List Member) → list_all (λ name. is_path_text name && is_path (in_folder p name)) (map (λ (m : Member). m.name) ms) ≡ true → Each (λ (m : Member). length m.name ≤ 1000) ms
names_short p [] h = tt
names_short p (m ∷ ms) h = (
  path_short m.name (and_first (is_path_text m.name) (is_path (in_folder p m.name)) (and_first (is_path_text m.name && is_path (in_folder p m.name)) _ h)),
  names_short p ms (and_second (is_path_text m.name && is_path (in_folder p m.name)) _ h),
)

names_len : (ms : List Member) → length (map (λ (m : Member). m.name) ms) ≡ length ms
names_len [] = refl
names_len (m ∷ ms) = omega (arith, names_len ms)

-- at most 20,000 members make a record longer by less than the difference between its two limits
list_short : (p : Path) (ms : List Member) → are_valid_members p ms ≡ true → length (list member ms) ≤ 20160006
list_short p ms valid =
    let names : List Path = map (λ (m : Member). m.name) ms in
    let are : are_members p names ≡ true = and_first (are_members p names) _ valid in
    let few : length ms ≤ 20000 = omega (arith, names_len ms, leb-true (length names) 20000 (and_first (nat_le (length names) 20000) _ are)) in
    omega (arith, few, num_short (length ms) few, members_short ms (names_short p ms (and_second (nat_le (length names) 20000) _ are)), length-append (num (length ms)) (flat_map member ms))

spelled_length : (p : Path) (made : ℕ) (recipe : Recipe) (stamps : List Stamp) (ms : List Member)
    → length (spelling (record_of p made recipe stamps ms)) ≡ length (head (record_of p made recipe stamps [])) + length (list member ms)
spelled_length p made recipe stamps ms = length-append (head (record_of p made recipe stamps [])) (list member ms)

short_with : (p : Path) (made : ℕ) (recipe : Recipe) (stamps : List Stamp) (ms : List Member)
    → length (list member ms) ≤ 20160006 → is_long (length (spelling (record_of p made recipe stamps []))) ≡ false
    → length (spelling (record_of p made recipe stamps ms)) ≤ 33554432
short_with p made recipe stamps ms few long =
    omega (arith, few, not_long (length (spelling (record_of p made recipe stamps []))) long, spelled_length p made recipe stamps [], spelled_length p made recipe stamps ms)
  where
    not_long : (n : ℕ) → is_long n ≡ false → n ≤ 1048576
    not_long n h = grind (arith, h)

-- ## Validity

-- another test in place of the last but one
other_true : (bs : List Bool) (x y z : Bool) → list_all (λ (b : Bool). b) (bs ++ x ∷ z ∷ []) ≡ true → y ≡ true → list_all (λ (b : Bool). b) (bs ++ y ∷ z ∷ []) ≡ true
other_true [] x y z h k = both_true y (z && true) k (and_second x (z && true) h)
other_true (b ∷ bs) x y z h k =
    both_true b (list_all (λ (a : Bool). a) (bs ++ y ∷ z ∷ [])) (and_first b (list_all (λ (a : Bool). a) (bs ++ x ∷ z ∷ [])) h)
    (other_true bs x y z (and_second b (list_all (λ (a : Bool). a) (bs ++ x ∷ z ∷ [])) h) k)

-- all that is asked of a record but of its members and its format
abbrev tests : Record → List Bool
tests r =
    (length r.stamps == length (in_paths r.recipe))
    ∷ among (out_paths r.recipe) r.path
    ∷ nat_le 1 r.made
    ∷ list_all (is_earlier r.made) r.stamps
    ∷ are_rising (map (λ (w : Pair). w.name) r.recipe.wildcards)
    ∷ list_all is_path_text (in_paths r.recipe)
    ∷ list_all is_path_text (out_paths r.recipe)
    ∷ []

-- the members are those of a directory, or there are none
abbrev pub AreFor : Recipe → Path → List Member → Type 0
AreFor recipe p ms = (if among (folders_of recipe) p then are_valid_members p ms else are_none ms) ≡ true

valid_with : (p : Path) (made : ℕ) (recipe : Recipe) (stamps : List Stamp) (ms : List Member)
    → is_valid (record_of p made recipe stamps []) ≡ true → AreFor recipe p ms → is_valid (record_of p made recipe stamps ms) ≡ true
valid_with p made recipe stamps ms valid for =
    other_true (tests (record_of p made recipe stamps [])) (if among (folders_of recipe) p then are_valid_members p [] else true)
    (if among (folders_of recipe) p then are_valid_members p ms else are_none ms) (is_format 2 && list_all (is_in_format 2) stamps) valid for

-- the outputs of a valid record's recipe are paths
pub outputs_paths : (r : Record) → is_valid r ≡ true → list_all is_path_text (out_paths r.recipe) ≡ true
outputs_paths r valid =
    seventh (length r.stamps == length (in_paths r.recipe)) (among (out_paths r.recipe) r.path) (nat_le 1 r.made) (list_all (is_earlier r.made) r.stamps)
    (are_rising (map (λ (w : Pair). w.name) r.recipe.wildcards)) (list_all is_path_text (in_paths r.recipe)) (list_all is_path_text (out_paths r.recipe))
    ((if among (folders_of r.recipe) r.path then are_valid_members r.path r.members else are_none r.members) ∷ (is_format r.format && list_all (is_in_format r.format) r.stamps) ∷ []) valid
  where
    seventh : (a b c d e f g : Bool) (rest : List Bool) → list_all (λ (x : Bool). x) (a ∷ b ∷ c ∷ d ∷ e ∷ f ∷ g ∷ rest) ≡ true → g ≡ true
    seventh a b c d e f g rest h = and_first g _ (and_second f _ (and_second e _ (and_second d _ (and_second c _ (and_second b _ (and_second a _ h))))))

members_few : (recipe : Recipe) (p : Path) (ms : List Member) → AreFor recipe p ms → length (list member ms) ≤ 20160006
members_few recipe p ms for = by (among (folders_of recipe) p) for
  where
    none_short : (xs : List Member) → are_none xs ≡ true → length (list member xs) ≤ 20160006
    none_short [] h = omega (arith, num_short 0 (omega arith), length-append (num 0) [])
    none_short (x ∷ xs) h = absurd (true≢false (sym h))

    by : (b : Bool) → (if b then are_valid_members p ms else are_none ms) ≡ true → length (list member ms) ≤ 20160006
    by true h = list_short p ms h
    by false h = none_short ms h

-- ## Reading

pub read_back : (read : List ℕ → Option Record) (p : Path) (made : ℕ) (recipe : Recipe) (stamps : List Stamp) (ms : List Member) (time : ℕ) (read_only : Bool)
    → ReadsRecords read → is_valid (record_of p made recipe stamps []) ≡ true → is_writable (record_of p made recipe stamps []) ≡ true
    → is_long (length (spelling (record_of p made recipe stamps []))) ≡ false → AreFor recipe p ms
    → kept_by read p (Some (Regular (spelling (record_of p made recipe stamps ms)) time read_only)) ≡ Held (record_of p made recipe stamps ms)
read_back read p made recipe stamps ms time read_only reads valid writable long for =
    let r : Record = record_of p made recipe stamps ms in
    let good = valid_with p made recipe stamps ms valid for in
    let short = short_with p made recipe stamps ms (members_few recipe p ms for) long in
    ap (λ (b : Bool). if b then for_path p (read (spelling r)) else Unreadable) (le-leb (length (spelling r)) 33554432 short)
    ∙ ap (for_path p) ((reads (spelling r) r (omega (arith, short))).1 (refl, both_true (is_valid r) (is_writable r) good writable))
    ∙ ap (λ (b : Bool). if b then Held r else Unreadable) (both_true (bytes_eq p p) (is_valid r) (place_itself p) good)
