use Rattle.smk_run.proofs.Choosing.{all_good}
use Rattle.smk_run.proofs.laws.due_commands_are_good.Goals as goal

pub returns : goal.returns
returns c = all_good
