-- How many states the jobs have by their ranks.
use Rattle.std.proofs.Common.{◌≡◌, ◌∙◌, List, ap, length}
use Rattle.std.proofs.lemmas.List.{length-map}
use Rattle.smk_world.specs.Trees.{Path}
use Rattle.smk_chain.specs.declared.jobs.Jobs.{Jobs}
use Rattle.smk_plan_states.specs.declared.standing.Ranking.{Ranking}
use Rattle.smk_plan_states.specs.declared.table.Table.{Table}
use Rattle.smk_plan_states.specs.Lines.{line_of}
use Rattle.smk_plan_states.specs.Standing.{states_by}
use Rattle.smk_plan_states.specs.Stays.{Told}
use Rattle.smk_plan_states.specs.Tables.{IsTableOf}
use Rattle.smk_plan_states.proofs.Steps.{states_long}

pub states_each :
    (J : Jobs) (asked : List Path) (table : Table) (rows : Told) (r : Ranking) → IsTableOf J asked table → length (states_by table rows r) ≡ length J.jobs
states_each J asked table rows r told = states_long table.origins rows r.last.items 0 table.lines ∙ ap length told.lines ∙ length-map J.jobs (line_of J asked)
