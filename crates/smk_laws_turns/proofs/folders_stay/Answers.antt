use Rattle.smk_laws_turns.proofs.Homes.{home_stays, looks_leave_all, looks_leave_ours}
use Rattle.smk_laws_turns.proofs.folders_stay.Goals as goal

pub returns : goal.returns
returns c = record { homes = home_stays; looks = looks_leave_all; ours = looks_leave_ours }
