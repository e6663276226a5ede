use Rattle.smk_flow.proofs.NoFault.{no_fault}
use Rattle.smk_flow.proofs.laws.fault_means_none.Goals as goal

pub returns : goal.returns
returns c = no_fault
