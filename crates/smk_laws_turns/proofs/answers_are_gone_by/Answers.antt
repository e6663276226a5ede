use Rattle.smk_laws_turns.proofs.Answered.{rest_goes_by}
use Rattle.smk_laws_turns.proofs.Rests.{any_is_replanned}
use Rattle.smk_laws_turns.proofs.answers_are_gone_by.Goals as goal

pub returns : goal.returns
returns c = record { rests = rest_goes_by; any = any_is_replanned }
