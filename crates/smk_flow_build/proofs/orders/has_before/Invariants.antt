use Rattle.std.proofs.Common.{◌≡◌, drop}
use Rattle.smk_flow.specs.Checks.{has_before}
use Rattle.smk_flow_build.proofs.orders.has_before.Given as goal

abbrev pub invariant-loop-at : goal.invariant-loop-at
invariant-loop-at l = has_before l.a l.b l.names ≡ has_before l.a l.b (drop l.at l.names)
