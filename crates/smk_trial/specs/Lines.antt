-- The lines of a trial.
use Rattle.std.specs.Prelude.{ℕ, [], ◌∷◌, ◌++◌, codes, decimal}
use Rattle.smk_gen.specs.Files.{Text}

-- a count, with what stands before and behind it
abbrev pub told_line : Text → ℕ → Text → Text
told_line before count behind = before ++ (decimal count ++ (behind ++ 10 ∷ []))

-- how many samples there are, how many jobs each run started, and how many bytes the joined copies have
abbrev pub trial_lines : ℕ → ℕ → ℕ → ℕ → ℕ → Text
trial_lines size first second third total =
    told_line (codes "generated ") size (codes " samples")
    ++ (told_line (codes "first run: ") first (codes " started")
    ++ (told_line (codes "second run: ") second (codes " started")
    ++ (told_line (codes "after an edit: ") third (codes " started") ++ told_line (codes "total: ") total (codes " bytes"))))
