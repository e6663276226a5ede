-- The laws of other crates that are used here.
use Rattle.smk_laws_turns.proofs.Turning.{growing_leads}
use Rattle.smk_laws_turns.proofs.Answered.{rest_goes_by}
use Rattle.smk_laws_turns.proofs.Rests.{any_is_replanned}
use Rattle.smk_laws_turns.proofs.Given.{laws as growing_laws}
use Rattle.smk_laws_turns.proofs.Grows.{growth_goes_on}
use Rattle.smk_laws_turns.proofs.Before.{plan_before_guarding}
use Rattle.smk_laws_turns.proofs.Left.{close_differs, left_ours, tend_differs}
use Rattle.smk_laws_closes.proofs.Laws.{Laws}

pub laws : Laws
laws =
    record {
      rest_goes_by = rest_goes_by;
      any_is_replanned = any_is_replanned;
      close_differs = close_differs;
      tend_differs = tend_differs;
      left_ours = left_ours;
      plan_before_guarding = plan_before_guarding;
      growth_goes_on = growth_goes_on growing_laws;
      growing_leads = growing_leads;
    }
