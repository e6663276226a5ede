use Rattle.smk_laws_turns.proofs.Telling.{each_begun_is_started, told_of_moment}
use Rattle.smk_laws_turns.proofs.ends_are_told.Goals as goal

pub returns : goal.returns
returns c = record { told = told_of_moment; started = each_begun_is_started }
