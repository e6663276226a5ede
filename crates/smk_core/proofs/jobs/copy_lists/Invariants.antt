use Rattle.std.proofs.Common.{◌≡◌, take}
use Rattle.smk_core.proofs.jobs.copy_lists.Given as goal

abbrev pub invariant-loop-list : goal.invariant-loop-list
invariant-loop-list l = l.made ≡ take l.list-index l.lists
