use Rattle.std.proofs.Common.{◌≡◌, length}
use Rattle.smk_core.proofs.jobs.empty_lists.Given as goal

abbrev pub invariant-loop-i : goal.invariant-loop-i
invariant-loop-i l = length l.made.items ≡ l.i
