use Rattle.std.proofs.Common.{◌≡◌, map, take}
use Rattle.smk_plan_live.specs.Carried.{begun_entry}
use Rattle.smk_plan_live.proofs.beginning.begun_entries.Given as goal

abbrev pub invariant-loop-path : goal.invariant-loop-path
invariant-loop-path l = l.row.items ≡ map (begun_entry l.base) (take l.path-index l.paths)
