use Rattle.smk_drive_course.proofs.OneRefusal.{one_chain_refusal, one_refusal}
use Rattle.smk_drive_course.proofs.refusals_are_one.Goals as goal

pub returns : goal.returns
returns c = record { chain = one_chain_refusal; run = one_refusal }
