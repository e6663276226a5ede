use Rattle.smk_laws_complete.proofs.Alone.{read_flows_gather_alone}
use Rattle.smk_laws_complete.proofs.read_workflows_gather_alone.Goals as goal

pub returns : goal.returns
returns c = read_flows_gather_alone
