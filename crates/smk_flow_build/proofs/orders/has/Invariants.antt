use Rattle.std.proofs.Common.{◌≡◌, drop}
use Rattle.smk_flow.specs.Checks.{has}
use Rattle.smk_flow_build.proofs.orders.has.Given as goal

abbrev pub invariant-loop-other : goal.invariant-loop-other
invariant-loop-other l = has l.names l.name ≡ has (drop l.other-index l.names) l.name
