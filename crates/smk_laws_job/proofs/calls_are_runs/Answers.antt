use Rattle.smk_laws_job.proofs.Beginning.{beginning_runs}
use Rattle.smk_laws_job.proofs.FinishRuns.{finishing_runs, finishing_parts, looking_runs, losing_runs, abandoning_runs}
use Rattle.smk_laws_job.proofs.Parts.{carried_part, beginning_parts, beginning_fails, abandoning_parts, abandoning_fails}
use Rattle.smk_laws_job.proofs.Forgetting.{forgetting_runs, forgetting_safe}
use Rattle.smk_laws_job.proofs.calls_are_runs.Goals as goal

pub returns-clause-carried : goal.returns-clause-carried
returns-clause-carried c = carried_part

pub returns-clause-beginning : goal.returns-clause-beginning
returns-clause-beginning c = beginning_runs

pub returns-clause-beginning_parts : goal.returns-clause-beginning_parts
returns-clause-beginning_parts c = beginning_parts

pub returns-clause-abandoning : goal.returns-clause-abandoning
returns-clause-abandoning c = abandoning_runs

pub returns-clause-abandoning_parts : goal.returns-clause-abandoning_parts
returns-clause-abandoning_parts c = abandoning_parts

pub returns-clause-finishing : goal.returns-clause-finishing
returns-clause-finishing c = finishing_runs

pub returns-clause-losing : goal.returns-clause-losing
returns-clause-losing c = losing_runs

pub returns-clause-beginning_fails : goal.returns-clause-beginning_fails
returns-clause-beginning_fails c = beginning_fails

pub returns-clause-abandoning_fails : goal.returns-clause-abandoning_fails
returns-clause-abandoning_fails c = abandoning_fails

pub returns-clause-finishing_parts : goal.returns-clause-finishing_parts
returns-clause-finishing_parts c = finishing_parts

pub returns-clause-looking : goal.returns-clause-looking
returns-clause-looking c = looking_runs

pub returns-clause-forgetting : goal.returns-clause-forgetting
returns-clause-forgetting c = forgetting_runs

pub returns-clause-forgetting_safe : goal.returns-clause-forgetting_safe
returns-clause-forgetting_safe c = forgetting_safe
