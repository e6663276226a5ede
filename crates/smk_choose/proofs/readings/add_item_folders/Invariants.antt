use Rattle.std.proofs.Common.{◌≡◌, ◌++◌, take}
use Rattle.std.specs.List.{flat_map}
use Rattle.smk_flow.specs.declared.rule.OutPart.{OutPart}
use Rattle.smk_choose.specs.Readings.{folders_in}
use Rattle.smk_choose.proofs.readings.add_item_folders.Given as goal

abbrev pub invariant-loop-item : goal.invariant-loop-item
invariant-loop-item l = l.found ≡ l.initial.found ++ flat_map (λ (i : OutPart). folders_in l.limits i.outs) (take l.item-index l.items)
