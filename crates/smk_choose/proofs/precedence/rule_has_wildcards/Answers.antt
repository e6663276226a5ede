use Rattle.std.proofs.Common.{◌∙◌, sym, ap}
use Rattle.std.specs.List.{list_any}
use Rattle.smk_pattern.specs.Reading.{has_wildcards}
use Rattle.smk_flow.specs.declared.rule.OutPart.{OutPart}
use Rattle.smk_flow.specs.declared.rule.FlaggedText.{FlaggedText}
use Rattle.smk_choose.proofs.Preferred.{any_flat}
use Rattle.smk_choose.proofs.precedence.rule_has_wildcards.Goals as goal

pub returns : goal.returns
returns c =
    c.any_items_wildcards.ensures
    ∙ ap (list_any (λ (i : OutPart). list_any (λ (o : FlaggedText). has_wildcards o.text) i.outs)) c.as_slice.ensures
    ∙ sym (any_flat (λ (o : FlaggedText). has_wildcards o.text) (λ (i : OutPart). i.outs) c.args.part.now.outputs)
