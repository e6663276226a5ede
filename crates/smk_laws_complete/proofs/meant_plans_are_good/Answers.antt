use Rattle.smk_laws_complete.proofs.Newly.{new_are_meant}
use Rattle.smk_laws_complete.proofs.Right.{meant_are_right, meant_jobs_are_good, more_are_right}
use Rattle.smk_laws_complete.proofs.meant_plans_are_good.Goals as goal

pub returns : goal.returns
returns c = record { right = meant_are_right; good = meant_jobs_are_good; new = new_are_meant; more = more_are_right }
