use Rattle.smk_laws_moments.proofs.ReplanningOf.{replanning_is_moment}
use Rattle.smk_laws_moments.proofs.RestsBetween.{between_rests_is_moment}
use Rattle.smk_laws_moments.proofs.replanning_is_moment.Goals as goal

pub returns : goal.returns
returns c = record { anew = replanning_is_moment; between = between_rests_is_moment }
