use Rattle.smk_safe.proofs.Stored.{next_serial_is_above, signs_are_all}
use Rattle.smk_safe.proofs.stores_tell_runs.Goals as goal

pub returns : goal.returns
returns c = record { serial = next_serial_is_above; signs = signs_are_all }
