use Rattle.std.proofs.Common.{◌≡◌, take, map}
use Rattle.smk_pattern.specs.Bare.{without_limits}
use Rattle.smk_flow.specs.declared.rule.FlaggedText.{FlaggedText}
use Rattle.smk_eval_rules.proofs.outputs.bare_outs.Given as goal

abbrev pub invariant-loop-out : goal.invariant-loop-out
invariant-loop-out l = l.texts ≡ map (λ (f : FlaggedText). without_limits f.text) (take l.out-index l.outs)
