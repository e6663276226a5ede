use Rattle.smk_laws_history.proofs.CurrentTrusted.{trusted_holds, current_is_trusted, current_is_safe, none_runs}
use Rattle.smk_laws_history.proofs.trusted_is_safe.Goals as goal

pub returns : goal.returns
returns c = record { holds = trusted_holds; trusted = current_is_trusted; safe = current_is_safe; idle = none_runs }
