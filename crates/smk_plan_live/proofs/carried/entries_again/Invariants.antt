use Rattle.std.proofs.Common.{◌≡◌, map, option_map, take}
use Rattle.smk_plan_live.specs.Now.{entry_now}
use Rattle.smk_plan_live.specs.Carried.{copied_entry}
use Rattle.smk_plan_live.proofs.carried.entries_again.Given as goal

abbrev pub invariant-loop-path : goal.invariant-loop-path
invariant-loop-path l = l.row.items ≡ map (λ q. option_map copied_entry (entry_now l.base q)) (take l.path-index l.paths)
