use Rattle.std.proofs.Common.{◌≡◌, drop}
use Rattle.smk_flow.specs.Named.{rule_at}
use Rattle.smk_flow.specs.Checks.{strangers}
use Rattle.smk_flow_build.proofs.orders.check_known.Given as goal

abbrev pub invariant-loop-name : goal.invariant-loop-name
invariant-loop-name l = strangers (rule_at l.rules) l.clause.names ≡ strangers (rule_at l.rules) (drop l.name-index l.clause.names)
