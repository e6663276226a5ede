use Rattle.smk_laws_turns.proofs.PlansAlike.{plans_alike}
use Rattle.smk_laws_turns.proofs.Progressing.{begins_alike, closes_alike}
use Rattle.smk_laws_turns.proofs.progress_follows.Goals as goal

pub returns-clause-plans : goal.returns-clause-plans
returns-clause-plans c = plans_alike

pub returns-clause-begins : goal.returns-clause-begins
returns-clause-begins c = begins_alike

pub returns-clause-closes : goal.returns-clause-closes
returns-clause-closes c = closes_alike
