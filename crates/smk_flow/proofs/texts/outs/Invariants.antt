use Rattle.std.proofs.Common.{◌≡◌, take}
use Rattle.std.specs.List.{flat_map}
use Rattle.smk_flow.specs.declared.rule.OutPart.{OutPart}
use Rattle.smk_flow.specs.Lent.{all_lent}
use Rattle.smk_flow.proofs.texts.outs.Given as goal

abbrev pub invariant-loop-item : goal.invariant-loop-item
invariant-loop-item l = all_lent l.found.items ≡ flat_map (λ (i : OutPart). i.outs) (take l.item-index l.part.outputs)
