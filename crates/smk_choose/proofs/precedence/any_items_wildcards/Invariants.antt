use Rattle.std.proofs.Common.{◌≡◌, drop}
use Rattle.std.specs.List.{list_any}
use Rattle.smk_pattern.specs.Reading.{has_wildcards}
use Rattle.smk_flow.specs.declared.rule.OutPart.{OutPart}
use Rattle.smk_flow.specs.declared.rule.FlaggedText.{FlaggedText}
use Rattle.smk_choose.proofs.precedence.any_items_wildcards.Given as goal

abbrev pub invariant-loop-item : goal.invariant-loop-item
invariant-loop-item l =
    list_any (λ (i : OutPart). list_any (λ (o : FlaggedText). has_wildcards o.text) i.outs) l.items
    ≡ list_any (λ (i : OutPart). list_any (λ (o : FlaggedText). has_wildcards o.text) i.outs) (drop l.item-index l.items)
