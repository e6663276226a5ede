use Rattle.smk_laws_turns.proofs.Turning.{beginning_leads, closing_leads, growing_leads, spending_leads}
use Rattle.smk_laws_turns.proofs.steps_lead_on.Goals as goal

pub returns : goal.returns
returns c = record { begins = beginning_leads; closes = closing_leads; grows = growing_leads; spends = spending_leads }
