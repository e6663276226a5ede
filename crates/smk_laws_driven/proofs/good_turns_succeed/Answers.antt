use Rattle.smk_laws_driven.proofs.Feeding.{fed_turns_succeed, next_turn_is_fed}
use Rattle.smk_laws_driven.proofs.Looking.{inputs_are_found}
use Rattle.smk_laws_driven.proofs.TurnsSucceeding.{good_jobs_can_succeed, turns_succeed}
use Rattle.smk_laws_driven.proofs.good_turns_succeed.Goals as goal

pub returns : goal.returns
returns c =
    record {
      turns = turns_succeed;
      good = good_jobs_can_succeed;
      fed = fed_turns_succeed;
      next = next_turn_is_fed;
      found = inputs_are_found;
    }
