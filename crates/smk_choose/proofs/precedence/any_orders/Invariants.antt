use Rattle.std.proofs.Common.{◌≡◌, drop}
use Rattle.std.specs.List.{list_any}
use Rattle.smk_choose.specs.Choose.{orders}
use Rattle.smk_choose.proofs.precedence.any_orders.Given as goal

abbrev pub invariant-loop-clause : goal.invariant-loop-clause
invariant-loop-clause l = list_any (orders l.a l.b) l.clauses ≡ list_any (orders l.a l.b) (drop l.clause-index l.clauses)
