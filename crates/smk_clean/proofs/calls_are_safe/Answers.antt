use Rattle.smk_clean.proofs.Serving.{call_is_safe}
use Rattle.smk_clean.proofs.calls_are_safe.Goals as goal

pub returns : goal.returns
returns c = call_is_safe
