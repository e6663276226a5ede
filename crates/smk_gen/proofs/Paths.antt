-- Where the sources stand: in their folder, each at a path of its own.
use Rattle.std.proofs.Common.{◌≡◌, ◌^◌, ◌<◌, ◌≤◌, ◌+◌, ◌==◌, ℕ, zero, suc, true, false, ◌&&◌, not, List, [], ◌∷◌, ◌++◌, map, codes, decimal, bytes_eq, None, Some}
use Rattle.std.proofs.Common.{refl, ap, sym, ◌∙◌, arith}
use Rattle.std.specs.Prelude.{if◌then◌else◌}
use Rattle.std.proofs.lemmas.Bool.{eqb-true}
use Rattle.std.proofs.Math.Bool.{and-false}
use Rattle.std.proofs.lemmas.Fmt.{decimal_injective, decimal-digits_of}
use Rattle.std.specs.Int.Digits.{digits_of}
use Rattle.std.proofs.lemmas.List.{append_cancel_right}
use Rattle.smk_base.specs.Path.{is_under}
use Rattle.smk_base.proofs.Places.{same_place, same_flipped}
use Rattle.smk_base.proofs.Under.{no_slash, no_slash_under, false_unless}
use Rattle.smk_world.specs.World.{Nodes, node_in}
use Rattle.smk_gen.specs.Files.{numbers_from, source_folder, source_path, source_node, source_file, snakefile_path}

-- ## No slash

not_slash : (d : ℕ) → (48 + d == 47) ≡ false
not_slash d = false_unless (48 + d == 47) (λ e. omega (arith, eqb-true (48 + d) 47 e))

digits_have_none : (ds rest : List ℕ) → no_slash rest ≡ true → no_slash (map (λ d. 48 + d) ds ++ rest) ≡ true
digits_have_none [] rest e = e
digits_have_none (d ∷ ds) rest e = ap (λ b. not b && no_slash (map (λ d. 48 + d) ds ++ rest)) (not_slash d) ∙ digits_have_none ds rest e

name_has_none : (number : ℕ) → 0 < number → number < 2 ^ 64 → no_slash (decimal number ++ codes ".txt") ≡ true
name_has_none number low high =
    ap (λ t. no_slash (t ++ codes ".txt")) (decimal-digits_of number low high)
    ∙ digits_have_none (digits_of 10 number) (codes ".txt") refl

-- ## Folders

-- the one folder above a source
pub folder_above : (number : ℕ) → 0 < number → number < 2 ^ 64 → (q : List ℕ) → is_under (source_path number) q ≡ bytes_eq q source_folder
folder_above number low high [] = refl
folder_above number low high (c ∷ []) = same_flipped (115 ∷ []) (c ∷ [])
folder_above number low high (c ∷ d ∷ q) =
    ap (λ b. (115 == c) && ((47 == d) && b)) (no_slash_under _ q (name_has_none number low high))
    ∙ ap (λ b. (115 == c) && b) (and-false (47 == d))
    ∙ and-false (115 == c)
    ∙ sym (and-false (c == 115))

-- no folder stands above the workflow's file
pub none_above : (q : List ℕ) → is_under snakefile_path q ≡ false
none_above q = no_slash_under snakefile_path q refl

-- ## Distinct paths

names_differ : (a b : ℕ) → a < 2 ^ 64 → b < 2 ^ 64 → source_path a ≡ source_path b → a ≡ b
names_differ a b low high e = decimal_injective a b low high (append_cancel_right (decimal a) (decimal b) (codes ".txt") (ap rest e))
  where
    rest : List ℕ → List ℕ
    rest [] = []
    rest (c ∷ []) = []
    rest (c ∷ d ∷ t) = t

abbrev pub sources_from : ℕ → ℕ → ℕ → Nodes
sources_from seed first count = map (source_file seed) (numbers_from first count)

-- no later source stands at the path of this one
pub none_later : (seed number first count : ℕ) → number < first → first + count ≤ 2 ^ 64 → node_in (sources_from seed first count) (source_path number) ≡ None
none_later seed number first zero before most = refl
none_later seed number first (suc count) before most =
    let differ : source_path number ≡ source_path first → number ≡ first = names_differ number first (omega (arith, before, most)) (omega (arith, most)) in
    let apart = false_unless (bytes_eq (source_path number) (source_path first)) (λ e. omega (arith, before, differ (same_place _ _ e))) in
    ap (λ b. if b then Some (source_node seed first) else node_in (sources_from seed (suc first) count) (source_path number)) apart
    ∙ none_later seed number (suc first) count (omega (arith, before)) (omega (arith, most))

-- no source stands at the path of their folder
pub none_at_folder : (seed first count : ℕ) → node_in (sources_from seed first count) source_folder ≡ None
none_at_folder seed first zero = refl
none_at_folder seed first (suc count) = none_at_folder seed (suc first) count
