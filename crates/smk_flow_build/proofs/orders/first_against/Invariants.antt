use Rattle.std.proofs.Common.{◌≡◌, drop}
use Rattle.smk_flow.specs.Checks.{against}
use Rattle.smk_flow_build.proofs.orders.first_against.Given as goal

abbrev pub invariant-loop-a : goal.invariant-loop-a
invariant-loop-a l = against l.orders l.before l.b ≡ against l.orders (drop l.a-index l.before) l.b
