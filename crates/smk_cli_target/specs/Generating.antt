-- What `--generate` tells of the files that a seed and a size give, and of three runs of them.
use Rattle.std.specs.Prelude.{ℕ, zero, suc, ◌+◌, ◌*◌, ◌%◌, ◌==◌, if◌then◌else◌, List, [], ◌∷◌, ◌++◌, codes, decimal, length}
use Rattle.std.specs.List.{flat_map}
use Rattle.smk_pattern.specs.Shapes.{Text}

-- the numbers of the sources: so many from this one on
abbrev pub numbers_from : ℕ → ℕ → List ℕ
numbers_from first zero = []
numbers_from first (suc count) = first ∷ numbers_from (suc first) count

-- what the source of this number holds
abbrev pub source_text : ℕ → ℕ → Text
source_text seed number = decimal ((seed * 31 + number * 17) % 1000) ++ 10 ∷ []

-- the source that is edited
abbrev pub edited_number : ℕ → ℕ → ℕ
edited_number seed size = suc (seed % size)

-- what it holds after the edit
abbrev pub text_after : ℕ → ℕ → ℕ → Text
text_after seed size number = if number == edited_number seed size then codes "edited" ++ 10 ∷ [] else source_text seed number

-- What all sources hold one after another, which is what a clean run makes of them after the edit: each is copied, and the copies are joined.
abbrev pub joined_text : ℕ → ℕ → Text
joined_text seed size = flat_map (text_after seed size) (numbers_from 1 size)

abbrev pub told_line : Text → ℕ → Text → Text
told_line before count behind = before ++ (decimal count ++ (behind ++ 10 ∷ []))

-- The five lines. The first run starts a job for each source and the one that joins; the second none; and after the edit of one source its own
-- job and the one that joins.
abbrev pub generated_lines : ℕ → ℕ → Text
generated_lines seed size =
    told_line (codes "generated ") size (codes " samples")
    ++ (told_line (codes "first run: ") (suc size) (codes " started")
    ++ (told_line (codes "second run: ") 0 (codes " started")
    ++ (told_line (codes "after an edit: ") 2 (codes " started") ++ told_line (codes "total: ") (length (joined_text seed size)) (codes " bytes"))))
