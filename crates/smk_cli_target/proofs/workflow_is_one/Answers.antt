use Rattle.smk_cli_target.proofs.FirstFault.{one_first_fault}
use Rattle.smk_cli_target.proofs.OneWorkflow.{no_faulty_workflow, one_workflow}
use Rattle.smk_cli_target.proofs.workflow_is_one.Goals as goal

pub returns : goal.returns
returns c = record { one = one_workflow; faultless = no_faulty_workflow; fault = one_first_fault }
