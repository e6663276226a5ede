use Rattle.std.proofs.Common.{◌≡◌, drop}
use Rattle.std.specs.List.{list_any}
use Rattle.smk_pattern.specs.Reading.{has_wildcards}
use Rattle.smk_flow.specs.declared.rule.FlaggedText.{FlaggedText}
use Rattle.smk_choose.proofs.precedence.any_wildcards.Given as goal

abbrev pub invariant-loop-out : goal.invariant-loop-out
invariant-loop-out l =
    list_any (λ (o : FlaggedText). has_wildcards o.text) l.outs ≡ list_any (λ (o : FlaggedText). has_wildcards o.text) (drop l.out-index l.outs)
