use Rattle.smk_laws_turns.proofs.Laws.{run_follows, steps_follow}
use Rattle.smk_laws_turns.proofs.runs_follow.Goals as goal

pub returns : goal.returns
returns c = record { steps = steps_follow; whole = run_follows }
