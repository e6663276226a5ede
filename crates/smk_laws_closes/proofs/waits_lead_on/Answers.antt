use Rattle.smk_laws_closes.proofs.Given.{laws}
use Rattle.smk_laws_closes.proofs.Turns.{closed_leads, grown_on, waited_leads}
use Rattle.smk_laws_closes.proofs.waits_lead_on.Goals as goal

pub returns : goal.returns
returns c = record { closed = closed_leads laws; grown = grown_on laws; waited = waited_leads }
