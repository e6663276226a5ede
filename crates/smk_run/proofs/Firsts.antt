-- The first of lists that follow one another, and the names of jobs.
use Rattle.std.proofs.Common.{◌≡◌, [], ◌∷◌, ◌++◌, ap, ◌∙◌, Some}
use Rattle.smk_world.specs.World.{out_paths}
use Rattle.smk_world.specs.Trees.{Path, first}
use Rattle.smk_pattern.specs.Reading.{or_empty}
use Rattle.smk_flow.specs.declared.job.Job.{Job}
use Rattle.smk_flow.specs.Flows.{Flow}
use Rattle.smk_report.specs.Lines.{Text, Named}
use Rattle.smk_run.specs.Reports.{rule_name, named}

abbrev with_rule : Text → Path → Named
with_rule r p = record { rule = r; path = p }

pub named_by : (flow : Flow) (job : Job) (rule : Text) (path : Path) → rule ≡ rule_name flow job.rule → Some path ≡ first (out_paths job.recipe) → record { rule = rule; path = path } ≡ named flow job
named_by flow job rule path e f =
    ap (λ r. with_rule r path) e ∙ ap (with_rule (rule_name flow job.rule)) (ap or_empty f)
