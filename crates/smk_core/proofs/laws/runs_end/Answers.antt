use Rattle.smk_core.proofs.Shown.{each_step_lessens, finished_means_done, waits_for_some}
use Rattle.smk_core.proofs.laws.runs_end.Goals as goal

pub returns : goal.returns
returns c = record { lessens = each_step_lessens; waits = waits_for_some; done = finished_means_done }
