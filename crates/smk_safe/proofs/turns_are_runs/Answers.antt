use Rattle.smk_safe.proofs.Lost.{failed_turn_leaves}
use Rattle.smk_safe.proofs.Turning.{turn_is_run, turns_are_run}
use Rattle.smk_safe.proofs.turns_are_runs.Goals as goal

pub returns : goal.returns
returns c = record { turn = turn_is_run; turns = turns_are_run; failed = failed_turn_leaves }
