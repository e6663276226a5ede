use Rattle.smk_cli_target.proofs.NextRun.{next_run_starts_none}
use Rattle.smk_cli_target.proofs.next_run_starts_none.Goals as goal

pub returns : goal.returns
returns c = next_run_starts_none
