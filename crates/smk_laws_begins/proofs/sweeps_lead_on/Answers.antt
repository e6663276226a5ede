use Rattle.smk_laws_begins.proofs.Ending.{broken_sweep_leads, lacking_sweep_leads, short_sweep_leads, sweep_leads, unsettled_leads}
use Rattle.smk_laws_begins.proofs.sweeps_lead_on.Goals as goal

pub returns : goal.returns
returns c =
    record { all = sweep_leads; short = short_sweep_leads; unsettled = unsettled_leads; broken = broken_sweep_leads; lacking = lacking_sweep_leads }
