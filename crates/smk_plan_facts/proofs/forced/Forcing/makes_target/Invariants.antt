use Rattle.std.proofs.Common.{◌≡◌, drop}
use Rattle.std.specs.List.{list_any}
use Rattle.smk_plan_facts.specs.Telling.{aims_at}
use Rattle.smk_plan_facts.proofs.forced.Forcing.makes_target.Given as goal

abbrev pub invariant-loop-item : goal.invariant-loop-item
invariant-loop-item l = list_any (aims_at l.self) l.outputs ≡ list_any (aims_at l.self) (drop l.item-index l.outputs)
