use Rattle.std.proofs.Common.{◌≡◌, [], take, map}
use Rattle.smk_pattern.specs.Reading.{fill}
use Rattle.smk_flow.specs.declared.rule.FlaggedText.{FlaggedText}
use Rattle.smk_flow.specs.Lent.{all_lent}
use Rattle.smk_flow_jobs.proofs.targeting.out_paths.Given as goal

abbrev pub invariant-loop-out : goal.invariant-loop-out
invariant-loop-out l = l.made ≡ map (λ (o : FlaggedText). fill [] o.text) (all_lent (take l.out-index l.outs))
