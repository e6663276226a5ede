use Rattle.smk_laws_refusing.proofs.Heeding.{last_plans_heed_no_lock, lock_changes_itself_alone, previews_heed_no_lock, refusals_heed_no_lock}
use Rattle.smk_laws_refusing.proofs.plans_heed_no_lock.Goals as goal

pub returns : goal.returns
returns c = record { alone = lock_changes_itself_alone; refused = refusals_heed_no_lock; last = last_plans_heed_no_lock; previewed = previews_heed_no_lock }
