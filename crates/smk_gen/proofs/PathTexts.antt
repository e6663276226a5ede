-- The paths of the files are texts.
use Rattle.std.proofs.Common.{◌≡◌, ◌^◌, ◌<◌, ◌≤◌, ◌+◌, ◌%◌, ◌==◌, ℕ, zero, suc, Bool, true, false, ◌&&◌, ◌||◌, not, List, [], ◌∷◌, ◌++◌, length, codes, decimal, bytes_eq, nat_le}
use Rattle.std.proofs.Common.{refl, ap, ◌∙◌, arith}
use Rattle.std.specs.Prelude.{nat_lt, if◌then◌else◌}
use Rattle.std.specs.Str.{is_utf8}
use Rattle.std.specs.List.{list_all}
use Rattle.std.proofs.lemmas.Bool.{eqb-true, lt-ltb, le-leb}
use Rattle.std.proofs.lemmas.Fmt.{decimal_by_steps, decimal_nonempty, length-decimal-le}
use Rattle.std.proofs.lemmas.List.{length-append}
use Rattle.std.proofs.lemmas.List.Folds.{list_all-append}
use Rattle.smk_base.specs.Path.{parts, first_slash, is_part, is_path_byte, are_path_bytes, are_parts, is_path, is_under}
use Rattle.smk_base.proofs.Parts.{are_parts_last}
use Rattle.smk_base.proofs.Paths.{is_path-joined}
use Rattle.smk_base.proofs.Places.{and_first, and_second}
use Rattle.smk_base.proofs.Under.{no_slash, both_true, false_of_not, false_unless, or_first}
use Rattle.smk_world.specs.Trees.{Each, is_path_text}
use Rattle.smk_gen.specs.Files.{source_path, generated_files}
use Rattle.smk_gen.specs.Made.{IsAtText}
use Rattle.smk_gen.proofs.Paths.{sources_from}

-- ## Digits

-- neither a slash nor a dot, of those that paths have, and below 128
abbrev is_plain : ℕ → Bool
is_plain b = nat_lt b 128 && (not (b == 47) && (not (b == 46) && is_path_byte b))

above : (d k : ℕ) → k < 48 → (48 + d == k) ≡ false
above d k low = false_unless (48 + d == k) (λ e. omega (arith, low, eqb-true (48 + d) k e))

digit_is_plain : (d : ℕ) → d < 10 → is_plain (48 + d) ≡ true
digit_is_plain d h =
    both_true (nat_lt (48 + d) 128) _ (lt-ltb (48 + d) 128 (omega (arith, h)))
    (both_true (not (48 + d == 47)) _ (ap not (above d 47 (omega arith)))
    (both_true (not (48 + d == 46)) _ (ap not (above d 46 (omega arith)))
    (both_true (not (48 + d == 0)) _ (ap not (above d 0 (omega arith))) (ap not (above d 10 (omega arith))))))

digit_more : (ds : List ℕ) (d : ℕ) → d < 10 → list_all is_plain ds ≡ true → list_all is_plain (ds ++ (48 + d) ∷ []) ≡ true
digit_more ds d h all =
    list_all-append is_plain ds ((48 + d) ∷ [])
    ∙ both_true (list_all is_plain ds) _ all (both_true (is_plain (48 + d)) true (digit_is_plain d h) refl)

decimal_is_plain : (n : ℕ) → n < 2 ^ 64 → list_all is_plain (decimal n) ≡ true
decimal_is_plain n h =
    decimal_by_steps (λ n ds. list_all is_plain ds ≡ true) (λ n low. both_true (is_plain (48 + n)) true (digit_is_plain n low) refl)
    (λ n ds low all. digit_more ds (n % 10) (omega arith) all)
    n h

-- ## Names of sources

abbrev named : List ℕ → List ℕ
named ds = ds ++ codes ".txt"

byte_low : (b : ℕ) → is_plain b ≡ true → nat_lt b 128 ≡ true
byte_low b h = and_first (nat_lt b 128) (not (b == 47) && (not (b == 46) && is_path_byte b)) h

byte_rest : (b : ℕ) → is_plain b ≡ true → (not (b == 47) && (not (b == 46) && is_path_byte b)) ≡ true
byte_rest b h = and_second (nat_lt b 128) (not (b == 47) && (not (b == 46) && is_path_byte b)) h

byte_slash : (b : ℕ) → is_plain b ≡ true → not (b == 47) ≡ true
byte_slash b h = and_first (not (b == 47)) (not (b == 46) && is_path_byte b) (byte_rest b h)

byte_end : (b : ℕ) → is_plain b ≡ true → (not (b == 46) && is_path_byte b) ≡ true
byte_end b h = and_second (not (b == 47)) (not (b == 46) && is_path_byte b) (byte_rest b h)

front : (b : ℕ) (ds : List ℕ) → list_all is_plain (b ∷ ds) ≡ true → is_plain b ≡ true
front b ds h = and_first (is_plain b) (list_all is_plain ds) h

behind : (b : ℕ) (ds : List ℕ) → list_all is_plain (b ∷ ds) ≡ true → list_all is_plain ds ≡ true
behind b ds h = and_second (is_plain b) (list_all is_plain ds) h

all_low : (ds : List ℕ) → list_all is_plain ds ≡ true → list_all (λ b. nat_lt b 128) (named ds) ≡ true
all_low [] h = refl
all_low (b ∷ ds) h = both_true (nat_lt b 128) _ (byte_low b (front b ds h)) (all_low ds (behind b ds h))

all_bytes : (ds : List ℕ) → list_all is_plain ds ≡ true → are_path_bytes (named ds) ≡ true
all_bytes [] h = refl
all_bytes (b ∷ ds) h =
    both_true (is_path_byte b) _ (and_second (not (b == 46)) (is_path_byte b) (byte_end b (front b ds h))) (all_bytes ds (behind b ds h))

slashless : (ds : List ℕ) → list_all is_plain ds ≡ true → no_slash (named ds) ≡ true
slashless [] h = refl
slashless (b ∷ ds) h = both_true (not (b == 47)) _ (byte_slash b (front b ds h)) (slashless ds (behind b ds h))

one_part : (t : List ℕ) → no_slash t ≡ true → length t ≤ first_slash t
one_part [] h = omega arith
one_part (b ∷ t) h =
    let more = one_part t (and_second (not (b == 47)) (no_slash t) h) in
    go (b == 47) (false_of_not (b == 47) (and_first (not (b == 47)) (no_slash t) h)) more
  where
    go : (v : Bool) → v ≡ false → length t ≤ first_slash t → suc (length t) ≤ (if v then 0 else suc (first_slash t))
    go true e more = cc
    go false e more = omega (arith, more)

name_is_path : (ds : List ℕ) → list_all is_plain ds ≡ true → 0 < length ds → length ds ≤ 4 → is_path (named ds) ≡ true
name_is_path [] h some short = absurd (omega (arith, some))
name_is_path (b ∷ ds) h some short =
    let dot : (b == 46) ≡ false = false_of_not (b == 46) (and_first (not (b == 46)) (is_path_byte b) (byte_end b (front b ds h))) in
    let len : length (named ds) ≡ length ds + 4 = length-append ds (codes ".txt") in
    let part : is_part (named (b ∷ ds)) ≡ true =
    both_true (not (length (named (b ∷ ds)) == 0)) _
    (ap not (false_unless (length (named (b ∷ ds)) == 0) (λ e. omega (arith, eqb-true (length (named (b ∷ ds))) 0 e))))
    (both_true (not (bytes_eq (named (b ∷ ds)) (46 ∷ []))) _ (ap (λ v. not (v && bytes_eq (named ds) [])) dot)
    (both_true (not (bytes_eq (named (b ∷ ds)) (46 ∷ 46 ∷ []))) _ (ap (λ v. not (v && bytes_eq (named ds) (46 ∷ []))) dot)
    (le-leb (length (named (b ∷ ds))) 250 (omega (arith, short, len))))) in
    both_true (nat_le (length (named (b ∷ ds))) 1000) _ (le-leb (length (named (b ∷ ds))) 1000 (omega (arith, short, len)))
    (both_true (are_path_bytes (named (b ∷ ds))) _ (all_bytes (b ∷ ds) h)
    (both_true (are_parts (parts (named (b ∷ ds)))) _
    (are_parts_last (named (b ∷ ds)) (one_part (named (b ∷ ds)) (slashless (b ∷ ds) h)) ∙ part)
    (ap (λ v. not ((v && bytes_eq (named ds) (codes "snakemake")) || (v && is_under (named ds) (codes "snakemake")))) dot)))

-- ## Paths

source_is_text : (number : ℕ) → number ≤ 2000 → is_path_text (source_path number) ≡ true
source_is_text number most =
    let plain = decimal_is_plain number (omega (arith, most)) in
    let short : length (decimal number) ≤ 4 = length-decimal-le 4 number (omega arith) (omega (arith, most)) (omega (arith, most)) in
    let len : length (named (decimal number)) ≡ length (decimal number) + 4 = length-append (decimal number) (codes ".txt") in
    let name : is_path (named (decimal number)) ≡ true =
    name_is_path (decimal number) plain (decimal_nonempty number (omega (arith, most))) short in
    both_true (is_path (source_path number)) _
    (is_path-joined (codes "s") (named (decimal number)) refl name ∙ le-leb (length (source_path number)) 1000 (omega (arith, short, len)))
    (or_first (list_all (λ b. nat_lt b 128) (source_path number)) (is_utf8 (source_path number)) (all_low (decimal number) plain))

sources_are_texts : (seed first count : ℕ) → first + count ≤ 2001 → Each IsAtText (sources_from seed first count)
sources_are_texts seed first zero most = tt
sources_are_texts seed first (suc count) most =
    (source_is_text first (omega (arith, most)), sources_are_texts seed (suc first) count (omega (arith, most)))

pub files_are_texts : (seed size : ℕ) → size ≤ 2000 → Each IsAtText (generated_files seed size)
files_are_texts seed size most = (refl, (refl, sources_are_texts seed 1 size (omega (arith, most))))
