use Rattle.std.proofs.Common.{◌≡◌, ◌++◌, take}
use Rattle.smk_eval_rules.specs.Kept.{all_lent}
use Rattle.smk_eval_rules.proofs.limits.joined.Given as goal

abbrev pub invariant-loop-pair : goal.invariant-loop-pair
invariant-loop-pair l = l.all ≡ l.fn.own ++ all_lent (take l.pair-index l.more)
