use Rattle.smk_laws_begins.proofs.Judged.{judged_as_kept}
use Rattle.smk_laws_begins.proofs.PickedOf.{may_start_as_kept, spent_as_kept}
use Rattle.smk_laws_begins.proofs.kept_jobs_may_start.Goals as goal

pub returns-clause-judged : goal.returns-clause-judged
returns-clause-judged c = judged_as_kept

pub returns-clause-starts : goal.returns-clause-starts
returns-clause-starts c = may_start_as_kept

pub returns-clause-spent : goal.returns-clause-spent
returns-clause-spent c = spent_as_kept
