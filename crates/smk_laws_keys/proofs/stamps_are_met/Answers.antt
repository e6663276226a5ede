use Rattle.smk_laws_keys.proofs.Telling.{met, front}
use Rattle.smk_laws_keys.proofs.stamps_are_met.Goals as goal

pub returns-clause-met : goal.returns-clause-met
returns-clause-met c = met

pub returns-clause-front : goal.returns-clause-front
returns-clause-front c = front
