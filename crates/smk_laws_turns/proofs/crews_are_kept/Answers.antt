use Rattle.smk_laws_turns.proofs.Crew.{crew_busy, crew_grows, crew_idle, crew_shrinks}
use Rattle.smk_laws_turns.proofs.crews_are_kept.Goals as goal

pub returns : goal.returns
returns c = record { grows = crew_grows; shrinks = crew_shrinks; idle = crew_idle; busy = crew_busy }
