use Rattle.std.proofs.Common.{◌≡◌, drop, map, filter}
use Rattle.smk_world.specs.Trees.{first}
use Rattle.smk_pattern.specs.Reading.{or_empty}
use Rattle.smk_flow.specs.declared.rule.FlaggedText.{FlaggedText}
use Rattle.smk_flow.specs.Flows.{makes_folder}
use Rattle.smk_flow.specs.Lent.{all_lent}
use Rattle.smk_flow_jobs.proofs.gathers.first_folder.Given as goal

abbrev pub invariant-loop-out : goal.invariant-loop-out
invariant-loop-out l =
    or_empty (first (map (λ (o : FlaggedText). o.text) (filter makes_folder (all_lent l.outs))))
    ≡ or_empty (first (map (λ (o : FlaggedText). o.text) (filter makes_folder (all_lent (drop l.out-index l.outs)))))
