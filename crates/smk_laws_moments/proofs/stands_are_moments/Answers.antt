use Rattle.smk_laws_moments.proofs.SpendingOf.{spending_is_moment}
use Rattle.smk_laws_moments.proofs.StandsOf.{first_is_moment, looks_keep_stands, refused_at_entry}
use Rattle.smk_laws_moments.proofs.stands_are_moments.Goals as goal

pub returns : goal.returns
returns c = record { first = first_is_moment; looks = looks_keep_stands; spending = spending_is_moment; refused = refused_at_entry }
