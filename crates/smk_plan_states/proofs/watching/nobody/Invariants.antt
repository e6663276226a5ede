use Rattle.std.proofs.Common.{◌≡◌, length}
use Rattle.smk_plan_states.proofs.watching.nobody.Given as goal

abbrev pub invariant-loop-line : goal.invariant-loop-line
invariant-loop-line l = length l.found.items ≡ l._line-index
