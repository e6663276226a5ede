use Rattle.smk_laws_begins.proofs.Onward.{sweep_begins, sweep_breaks, sweep_goes_on, sweep_lacks, sweep_may_go_on}
use Rattle.smk_laws_begins.proofs.sweeps_go_on.Goals as goal

pub returns : goal.returns
returns c = record { begins = sweep_begins; may = sweep_may_go_on; goes = sweep_goes_on; lacks = sweep_lacks; breaks = sweep_breaks }
