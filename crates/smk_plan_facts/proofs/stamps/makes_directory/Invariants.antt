use Rattle.std.proofs.Common.{◌≡◌, drop}
use Rattle.std.specs.List.{list_any}
use Rattle.smk_plan_facts.specs.Telling.{makes_directory_at}
use Rattle.smk_plan_facts.proofs.stamps.makes_directory.Given as goal

abbrev pub invariant-loop-item : goal.invariant-loop-item
invariant-loop-item l = list_any (makes_directory_at l.path) l.outputs ≡ list_any (makes_directory_at l.path) (drop l.item-index l.outputs)
