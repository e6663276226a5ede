use Rattle.std.proofs.Common.{◌≡◌, ◌++◌, length, map}
use Rattle.std.specs.Prelude.{reverse}
use Rattle.smk_eval_rules.specs.Rules.{with_globals}
use Rattle.smk_eval.proofs.state.limited.Given as goal

abbrev pub invariant-rules : goal.invariant-rules
invariant-rules l = map (with_globals l.limits) l.left ++ reverse l.made ≡ map (with_globals l.limits) l.fn.rules

abbrev pub decreases-rules : goal.decreases-rules
decreases-rules l = length l.left
