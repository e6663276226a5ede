use Rattle.smk_laws_turns.proofs.Differing.{differs_of}
use Rattle.smk_laws_turns.proofs.Ours.{ours_go_on}
use Rattle.smk_laws_turns.proofs.jobs_change_their_own.Goals as goal

pub returns : goal.returns
returns c = record { ours = ours_go_on; differs = differs_of }
