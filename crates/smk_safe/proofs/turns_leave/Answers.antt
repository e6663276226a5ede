use Rattle.smk_safe.proofs.Done.{done_turn_leaves}
use Rattle.smk_safe.proofs.Sparing.{turn_keeps_else, turns_keep_else}
use Rattle.smk_safe.proofs.turns_leave.Goals as goal

pub returns-clause-keeps : goal.returns-clause-keeps
returns-clause-keeps c = turn_keeps_else

pub returns-clause-keep : goal.returns-clause-keep
returns-clause-keep c = turns_keep_else

pub returns-clause-leaves : goal.returns-clause-leaves
returns-clause-leaves c = done_turn_leaves
