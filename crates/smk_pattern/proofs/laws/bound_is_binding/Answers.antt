use Rattle.smk_pattern.proofs.First.{bound_is_binding}
use Rattle.smk_pattern.proofs.laws.bound_is_binding.Goals as goal

pub returns : goal.returns
returns c = bound_is_binding
