-- Inputs with their stamps, as they are spelled.
use Rattle.std.proofs.Common.{◌≡◌, inl, inr, ℕ, min, List, [], ◌∷◌, ◌++◌, length, drop, refl, sym, ap, ◌∙◌, arith}
use Rattle.std.proofs.lemmas.Bool.{cases_lt}
use Rattle.std.proofs.lemmas.List.{append-nil, length-drop, nil_from_length}
use Rattle.smk_world.specs.Trees.{Path}
use Rattle.smk_record.specs.declared.record.Stamp.{Stamp}
use Rattle.smk_record.specs.Spelling.{stamped_paths}

no_stamps : (ps : List Path) → stamped_paths ps [] ≡ []
no_stamps [] = refl
no_stamps (p ∷ ps) = refl

pub stamped_end : (n : ℕ) (ps : List Path) (stamps : List Stamp) (front whole : List ℕ) → n ≡ min (length ps) (length stamps) → front ++ stamped_paths (drop n ps) (drop n stamps) ≡ whole → front ≡ whole
stamped_end n ps stamps front whole e h =
    let nothing : stamped_paths (drop n ps) (drop n stamps) ≡ [] =
    elim (cases_lt (length stamps) (length ps)) [
      | inl lt ↦ ap (stamped_paths (drop n ps)) (nil_from_length (drop n stamps) (omega (arith, length-drop n stamps))) ∙ no_stamps (drop n ps)
      | inr le ↦ ap (λ qs. stamped_paths qs (drop n stamps)) (nil_from_length (drop n ps) (omega (arith, length-drop n ps)))
    ] in
    sym (append-nil front) ∙ ap (λ t. front ++ t) (sym nothing) ∙ h
