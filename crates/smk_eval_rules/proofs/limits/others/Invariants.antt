use Rattle.std.proofs.Common.{◌≡◌, take, filter, not}
use Rattle.smk_base.specs.declared.tree.Pair.{Pair}
use Rattle.smk_eval_rules.specs.Kept.{holds, all_lent}
use Rattle.smk_eval_rules.proofs.limits.others.Given as goal

abbrev pub invariant-loop-limit : goal.invariant-loop-limit
invariant-loop-limit l = all_lent l.found.items ≡ filter (λ (g : Pair). not (holds l.kept g.name)) (take l.limit-index l.globals)
