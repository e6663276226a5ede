use Rattle.smk_cli_target.proofs.OneMet.{meets_one}
use Rattle.smk_cli_target.proofs.refusal_is_one.Goals as goal

pub returns : goal.returns
returns c = meets_one
