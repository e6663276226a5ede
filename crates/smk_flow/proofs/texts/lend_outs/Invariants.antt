use Rattle.std.proofs.Common.{◌≡◌, ◌++◌, take}
use Rattle.smk_flow.specs.Lent.{all_lent}
use Rattle.smk_flow.proofs.texts.lend_outs.Given as goal

abbrev pub invariant-loop-out : goal.invariant-loop-out
invariant-loop-out l = all_lent l.found.items ≡ all_lent l.initial.found.items ++ take l.out-index l.outs
