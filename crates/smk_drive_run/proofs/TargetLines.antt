-- The lines of targets, up to the end of the shorter list.
use Rattle.std.proofs.Common.{◌≡◌, inl, inr, ℕ, min, Bool, List, [], ◌∷◌, ◌++◌, length, drop, refl, sym, ap, ◌∙◌, arith}
use Rattle.std.proofs.lemmas.Bool.{cases_lt}
use Rattle.std.proofs.lemmas.List.{append-nil, length-drop, nil_from_length}
use Rattle.smk_world.specs.Trees.{Path}
use Rattle.smk_drive_course.specs.Reports.{target_lines}

no_flags : (ps : List Path) → target_lines ps [] ≡ []
no_flags [] = refl
no_flags (p ∷ ps) = refl

-- nothing is left to be added once one of the lists is at its end
pub targets_end :
    (n : ℕ) (ps : List Path) (flags : List Bool) (front whole : List ℕ) →
    n ≡ min (length ps) (length flags) → front ++ target_lines (drop n ps) (drop n flags) ≡ whole → front ≡ whole
targets_end n ps flags front whole e h =
    let nothing : target_lines (drop n ps) (drop n flags) ≡ [] =
    elim (cases_lt (length flags) (length ps)) [
      | inl lt ↦ ap (target_lines (drop n ps)) (nil_from_length (drop n flags) (omega (arith, length-drop n flags))) ∙ no_flags (drop n ps)
      | inr le ↦ ap (λ qs. target_lines qs (drop n flags)) (nil_from_length (drop n ps) (omega (arith, length-drop n ps)))
    ] in
    sym (append-nil front) ∙ ap (λ t. front ++ t) (sym nothing) ∙ h
