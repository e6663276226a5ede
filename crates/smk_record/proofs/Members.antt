-- What a directory may have under it.
use Rattle.std.proofs.Common.{◌≡◌, ℕ, ◌+◌, ◌-◌, ◌<◌, ◌≤◌, Bool, true, false, ◌&&◌, List, ◌∷◌, ◌++◌, map, length, take, get_or, refl, sym, ap, ◌∙◌, arith, length-append}
use Rattle.std.specs.Prelude.{nat_le, IsTrue}
use Rattle.std.specs.List.{list_all}
use Rattle.std.proofs.lemmas.List.{take_all, length-map}
use Rattle.std.proofs.lemmas.List.Folds.{list_all-map, list_all_at, list_all_more}
use Rattle.std.proofs.lemmas.Bool.{leb-true, le-leb}
use Rattle.smk_base.specs.Path.{is_path}
use Rattle.smk_base.proofs.Paths.{is_path-joined}
use Rattle.smk_base.proofs.Places.{and_first}
use Rattle.smk_base.proofs.Under.{both_true, false_unless}
use Rattle.smk_world.specs.Calls.{in_folder}
use Rattle.smk_world.specs.World.{folders_above}
use Rattle.smk_world.specs.Trees.{Path, is_path_text}
use Rattle.smk_record.specs.declared.record.Member.{Member}
use Rattle.smk_record.specs.Records.{are_rising, is_member_folder, are_valid_members}

-- the name fits under the folder
abbrev pub fits_under : Path → Member → Bool
fits_under p m = is_path_text m.name && is_path (in_folder p m.name)

-- the folders above it are members
abbrev pub has_above : List Member → Member → Bool
has_above ms m = list_all (is_member_folder ms) (folders_above m.name)

path_short : (p : Path) → IsTrue (is_path p) → length p ≤ 1000
path_short p h = leb-true _ _ (and_first (nat_le (length p) 1000) _ h)

pub room_enough : (p n : Path) → IsTrue (is_path p) → IsTrue (is_path n) → length n < 1000 - length p → is_path (in_folder p n) ≡ true
room_enough p n hp hn lt = is_path-joined p n hp hn ∙ le-leb _ _ (omega (arith, length-append p (47 ∷ n), lt))

pub room_lacks : (p n : Path) → IsTrue (is_path p) → IsTrue (is_path n) → 1000 - length p ≤ length n → is_path (in_folder p n) ≡ false
room_lacks p n hp hn le =
    is_path-joined p n hp hn ∙ false_unless (nat_le (length (p ++ 47 ∷ n)) 1000) (λ h. omega (arith, leb-true _ _ h, length-append p (47 ∷ n), le, path_short p hp))

and_none : (a b : Bool) → b ≡ false → (a && b) ≡ false
and_none true b e = e
and_none false b e = refl

pub unfit : (p : Path) (ms : List Member) (i : ℕ) (m : Member) → i < length ms → m ≡ get_or ms i m → is_path (in_folder p m.name) ≡ false → false ≡ are_valid_members p ms
unfit p ms i m lt e h =
    let here : fits_under p (get_or ms i m) ≡ false = ap (fits_under p) (sym e) ∙ and_none (is_path_text m.name) (is_path (in_folder p m.name)) h in
    let each : list_all (λ name. is_path_text name && is_path (in_folder p name)) (map (λ (x : Member). x.name) ms) ≡ false =
    list_all-map (λ name. is_path_text name && is_path (in_folder p name)) (λ (x : Member). x.name) ms ∙ list_all_at (fits_under p) ms i m lt here in
    let few = nat_le (length (map (λ (x : Member). x.name) ms)) 20000 in
    sym (ap (λ b. (few && b) && (are_rising (map (λ (x : Member). x.name) ms) && list_all (has_above ms) ms)) each
    ∙ ap (λ b. b && (are_rising (map (λ (x : Member). x.name) ms) && list_all (has_above ms) ms)) (and_none few false refl))

pub not_above : (p : Path) (ms : List Member) (i : ℕ) (m : Member) → i < length ms → m ≡ get_or ms i m → has_above ms m ≡ false → false ≡ are_valid_members p ms
not_above p ms i m lt e h =
    let each : list_all (has_above ms) ms ≡ false = list_all_at (has_above ms) ms i m lt (ap (has_above ms) (sym e) ∙ h) in
    let rising = are_rising (map (λ (x : Member). x.name) ms) in
    let front = nat_le (length (map (λ (x : Member). x.name) ms)) 20000 && list_all (λ name. is_path_text name && is_path (in_folder p name)) (map (λ (x : Member). x.name) ms) in
    sym (ap (λ b. front && (rising && b)) each ∙ ap (λ b. front && b) (and_none rising false refl) ∙ and_none front false refl)

pub one_more : (P : Member → Bool) (ms : List Member) (i : ℕ) (m : Member) → i < length ms → m ≡ get_or ms i m → list_all P (take i ms) ≡ true → P m ≡ true → list_all P (take (i + 1) ms) ≡ true
one_more P ms i m lt e h g = list_all_more P ms i m lt ∙ both_true (list_all P (take i ms)) (P (get_or ms i m)) h (ap P (sym e) ∙ g)

pub all_valid : (p : Path) (ms : List Member) (i : ℕ) → length ms ≤ 20000 → are_rising (map (λ (x : Member). x.name) ms) ≡ true → length ms ≤ i
    → list_all (fits_under p) (take i ms) ≡ true → list_all (has_above ms) (take i ms) ≡ true → true ≡ are_valid_members p ms
all_valid p ms i few rising le fit above =
    let whole : take i ms ≡ ms = take_all i ms le in
    let fits : list_all (fits_under p) ms ≡ true = ap (list_all (fits_under p)) (sym whole) ∙ fit in
    let tops : list_all (has_above ms) ms ≡ true = ap (list_all (has_above ms)) (sym whole) ∙ above in
    let names : list_all (λ name. is_path_text name && is_path (in_folder p name)) (map (λ (x : Member). x.name) ms) ≡ true = list_all-map (λ name. is_path_text name && is_path (in_folder p name)) (λ (x : Member). x.name) ms ∙ fits in
    let count : nat_le (length (map (λ (x : Member). x.name) ms)) 20000 ≡ true = rw length-map (le-leb _ _ few) in
    sym (both_true _ _ (both_true _ _ count names) (both_true _ _ rising tops))
