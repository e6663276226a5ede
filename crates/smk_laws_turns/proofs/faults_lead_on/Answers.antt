use Rattle.smk_laws_turns.proofs.Turning.{beginning_breaks, closing_breaks, failed_wait_leads, halt_leads, leaving_leads, reading_breaks, spending_breaks, wait_leads}
use Rattle.smk_laws_turns.proofs.faults_lead_on.Goals as goal

pub returns : goal.returns
returns c =
    record {
      halts = halt_leads;
      unwaited = failed_wait_leads;
      waits = wait_leads;
      unread = reading_breaks;
      unbegun = beginning_breaks;
      unspent = spending_breaks;
      left = leaving_leads;
      unclosed = closing_breaks;
    }
