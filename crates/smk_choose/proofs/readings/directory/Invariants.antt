use Rattle.std.proofs.Common.{◌≡◌, drop}
use Rattle.std.specs.List.{flat_map}
use Rattle.smk_flow.specs.declared.rule.OutPart.{OutPart}
use Rattle.smk_choose.specs.Readings.{first_folder}
use Rattle.smk_choose.proofs.readings.directory.Given as goal

abbrev pub invariant-loop-item : goal.invariant-loop-item
invariant-loop-item l =
    first_folder (flat_map (λ (i : OutPart). i.outs) l.item-items) ≡ first_folder (flat_map (λ (i : OutPart). i.outs) (drop l.item-index l.item-items))
