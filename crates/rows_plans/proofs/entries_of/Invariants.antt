use Rattle.std.proofs.Common.{◌≡◌, length}
use Rattle.rows_plans.proofs.entries_of.Given as goal

abbrev pub invariant-loop-path : goal.invariant-loop-path
invariant-loop-path l = length l.entries ≡ l.path-index
