use Rattle.smk_laws_refusing.proofs.Leaving.{refused_at_entry_fails, refused_at_entry_leaves_all}
use Rattle.smk_laws_refusing.proofs.refused_runs_leave_all.Goals as goal

pub returns : goal.returns
returns c = record { fails = refused_at_entry_fails; leaves = refused_at_entry_leaves_all }
