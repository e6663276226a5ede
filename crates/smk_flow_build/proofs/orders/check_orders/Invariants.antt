use Rattle.std.proofs.Common.{◌≡◌, drop}
use Rattle.smk_flow.specs.Checks.{contradiction}
use Rattle.smk_flow_build.proofs.orders.check_orders.Given as goal

abbrev pub invariant-loop-clause : goal.invariant-loop-clause
invariant-loop-clause l = contradiction l.orders l.orders ≡ contradiction l.orders (drop l.clause-index l.orders)
