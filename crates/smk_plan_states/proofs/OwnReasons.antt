-- Whether jobs have reasons.
use Rattle.std.proofs.Common.{◌≡◌, ◌∙◌, zero, suc, true, false, ◌||◌, List, [], ◌∷◌, map, refl, ap}
use Rattle.std.proofs.Math.Bool.{or-true, or-false}
use Rattle.std.specs.List.{list_any}
use Rattle.smk_trigger.specs.declared.reason.Reason.{Reason}
use Rattle.smk_plan_states.specs.declared.lines.Line.{Line}
use Rattle.smk_plan_states.specs.declared.lines.Origin.{Origin}
use Rattle.smk_plan_states.specs.declared.ranks.Rank.{Rank}
use Rattle.smk_plan_states.specs.Ranking.{dirties_by, is_upstream}
use Rattle.smk_plan_states.specs.Rows.{FitOwn, has_any, own_of}

pub dirty_upstream :
    (ranks : List Rank) (origins : List Origin) (own : List Reason) (line : Line) → list_any (is_upstream ranks origins) line.inputs ≡ true →
    dirties_by ranks origins own line ≡ true
dirty_upstream ranks origins own line up = ap (λ b. has_any own || b) up ∙ or-true (has_any own)

pub not_upstream :
    (ranks : List Rank) (origins : List Origin) (own : List Reason) (line : Line) → list_any (is_upstream ranks origins) line.inputs ≡ false →
    dirties_by ranks origins own line ≡ has_any own
not_upstream ranks origins own line none = ap (λ b. has_any own || b) none ∙ or-false (has_any own)

-- the flags of reasons fit them
pub fits_own : (reasons : List (List Reason)) → FitOwn (map own_of reasons) reasons
fits_own [] n = tt
fits_own ([] ∷ rest) zero = refl
fits_own ((r ∷ rs) ∷ rest) zero = refl
fits_own (rs ∷ rest) (suc n) = fits_own rest n
