use Rattle.smk_cli_target.proofs.Called.{clauses_are_met}
use Rattle.smk_cli_target.proofs.Enough.{came_is_history, came_is_good, headline}
use Rattle.smk_cli_target.proofs.contract_is_enough.Goals as goal

pub returns : goal.returns
returns c = record { met = clauses_are_met; history = came_is_history; good = came_is_good; headline = headline }
