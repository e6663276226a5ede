use Rattle.smk_laws_turns.proofs.Laws.{run_is_safe, run_keeps_sound}
use Rattle.smk_laws_turns.proofs.runs_are_safe.Goals as goal

pub returns : goal.returns
returns c = record { safe = run_is_safe; keeps = run_keeps_sound }
