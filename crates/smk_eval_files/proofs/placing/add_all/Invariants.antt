use Rattle.std.proofs.Common.{◌≡◌, ◌++◌, take}
use Rattle.smk_eval_files.specs.Placing.{entries}
use Rattle.smk_eval_files.proofs.placing.add_all.Given as goal

abbrev pub invariant-loop-placed : goal.invariant-loop-placed
invariant-loop-placed l = entries l.made.items ≡ entries l.initial.made.items ++ entries (take l.placed-index l.more)
