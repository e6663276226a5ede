use Rattle.std.proofs.Common.{◌≡◌, List, ℕ, take}
use Rattle.smk_eval_rules.specs.Kept.{holds}
use Rattle.smk_eval_rules.specs.Rules.{is_among}
use Rattle.smk_eval_rules.proofs.limits.by_name.Given as goal

abbrev pub invariant-loop-limit : goal.invariant-loop-limit
invariant-loop-limit l = (q : List ℕ) → holds l.kept q ≡ is_among (take l.limit-index l.limits) q
