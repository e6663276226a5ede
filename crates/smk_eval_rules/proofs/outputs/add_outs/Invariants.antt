use Rattle.std.proofs.Common.{◌≡◌, ◌++◌, take, map}
use Rattle.smk_pattern.specs.Searching.{now_of}
use Rattle.smk_flow.specs.declared.rule.FlaggedText.{FlaggedText}
use Rattle.smk_eval_rules.proofs.outputs.add_outs.Given as goal

abbrev pub invariant-loop-out : goal.invariant-loop-out
invariant-loop-out l = now_of l.found.items ≡ now_of l.fn.found.items ++ map (λ (o : FlaggedText). o.text) (take l.out-index l.outs)
