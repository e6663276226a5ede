use Rattle.std.proofs.Common.{◌≡◌, take, map}
use Rattle.std.specs.List.{flat_map}
use Rattle.smk_pattern.specs.Searching.{now_of}
use Rattle.smk_flow.specs.declared.rule.FlaggedText.{FlaggedText}
use Rattle.smk_flow.specs.declared.rule.OutPart.{OutPart}
use Rattle.smk_eval_rules.proofs.outputs.out_texts.Given as goal

abbrev pub invariant-loop-item : goal.invariant-loop-item
invariant-loop-item l = now_of l.found.items ≡ map (λ (o : FlaggedText). o.text) (flat_map (λ (o : OutPart). o.outs) (take l.item-index l.item-items))
