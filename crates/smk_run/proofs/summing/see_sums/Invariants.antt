use Rattle.std.proofs.Common.{◌≡◌, take, true}
use Rattle.std.specs.List.{list_all}
use Rattle.smk_run.specs.Digesting.{is_whole_sum}
use Rattle.smk_run.proofs.summing.see_sums.Given as goal

abbrev pub invariant-loop-sum : goal.invariant-loop-sum
invariant-loop-sum l = list_all is_whole_sum (take l.sum-index l.sums) ≡ true
