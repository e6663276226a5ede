use Rattle.std.proofs.Common.{◌≡◌, drop}
use Rattle.smk_flow.specs.Named.{rule_at}
use Rattle.smk_flow.specs.Checks.{stranger}
use Rattle.smk_flow_build.proofs.orders.check_all_known.Given as goal

abbrev pub invariant-loop-clause : goal.invariant-loop-clause
invariant-loop-clause l = stranger (rule_at l.rules) l.orders ≡ stranger (rule_at l.rules) (drop l.clause-index l.orders)
