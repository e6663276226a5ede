use Rattle.smk_laws_moments.proofs.Planned.{derived_are_planned, midway_keeps_sources}
use Rattle.smk_laws_moments.proofs.StandsOn.{first_is_derived, replanning_stays_derived, start_is_derived, stays_derived, step_stays_derived}
use Rattle.smk_laws_moments.proofs.running_jobs_stay.Goals as goal

pub returns : goal.returns
returns c =
    record { first = first_is_derived; start = start_is_derived; step = step_stays_derived; anew = replanning_stays_derived; steps = stays_derived; planned = derived_are_planned; sources = midway_keeps_sources }
