use Rattle.std.proofs.Common.{◌≡◌, [], take, drop}
use Rattle.smk_flow.specs.Checks.{contradiction_in}
use Rattle.smk_flow_build.proofs.orders.check_order.Given as goal

abbrev pub invariant-loop-at : goal.invariant-loop-at
invariant-loop-at l = contradiction_in l.orders [] l.names ≡ contradiction_in l.orders (take l.at l.names) (drop l.at l.names)
