use Rattle.smk_laws_complete.proofs.Calm.{clean_targets_are_derived, no_listing_is_right}
use Rattle.smk_laws_complete.proofs.clean_targets_are_derived.Goals as goal

pub returns : goal.returns
returns c = record { derived = clean_targets_are_derived; none_listed = no_listing_is_right }
