-- The numbers of the sources, and what is made of each in order.
use Rattle.std.proofs.Common.{◌≡◌, ℕ, zero, suc, ◌+◌, [], ◌∷◌, ◌++◌, map, ap, sym, ◌∙◌, arith}
use Rattle.std.proofs.Math.Numerals.{add-one}
use Rattle.std.proofs.lemmas.List.{flat_map_more, map-append}
use Rattle.std.specs.List.{flat_map}
use Rattle.smk_gen.specs.Files.{numbers_from, sample_text, list_text, source_file, source_files}

-- one number more
numbers_more : (first count : ℕ) → numbers_from first (suc count) ≡ numbers_from first count ++ (first + count) ∷ []
numbers_more first zero = ap (λ n. n ∷ []) (omega arith)
numbers_more first (suc count) =
    ap (λ ns. first ∷ ns) (numbers_more (suc first) count)
    ∙ ap (λ n. first ∷ (numbers_from (suc first) count ++ n ∷ [])) (omega arith)

numbers_next : (count : ℕ) → numbers_from 1 (count + 1) ≡ numbers_from 1 count ++ (count + 1) ∷ []
numbers_next count =
    ap (numbers_from 1) (add-one count)
    ∙ numbers_more 1 count
    ∙ ap (λ n. numbers_from 1 count ++ n ∷ []) (omega arith)

pub list_more : (count : ℕ) → list_text count ++ sample_text (count + 1) ≡ list_text (count + 1)
list_more count =
    flat_map_more sample_text (list_text 0) (numbers_from 1 count) (count + 1)
    ∙ ap (λ ns. list_text 0 ++ flat_map sample_text ns) (sym (numbers_next count))

pub files_more : (seed count : ℕ) → source_files seed (count + 1) ≡ source_files seed count ++ source_file seed (count + 1) ∷ []
files_more seed count = ap (map (source_file seed)) (numbers_next count) ∙ map-append (source_file seed) (numbers_from 1 count) ((count + 1) ∷ [])
