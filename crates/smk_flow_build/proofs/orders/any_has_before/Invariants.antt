use Rattle.std.proofs.Common.{◌≡◌, drop}
use Rattle.std.specs.List.{list_any}
use Rattle.smk_flow.specs.declared.rule.Clause.{Clause}
use Rattle.smk_flow.specs.Checks.{has_before}
use Rattle.smk_flow_build.proofs.orders.any_has_before.Given as goal

abbrev pub invariant-loop-clause : goal.invariant-loop-clause
invariant-loop-clause l = list_any (λ (c : Clause). has_before l.b l.a c.names) l.orders ≡ list_any (λ (c : Clause). has_before l.b l.a c.names) (drop l.clause-index l.orders)
