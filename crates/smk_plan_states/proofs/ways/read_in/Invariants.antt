use Rattle.std.proofs.Common.{◌≡◌, ◌||◌, ℕ, List, drop}
use Rattle.std.specs.List.{list_any}
use Rattle.smk_world.specs.Trees.{among}
use Rattle.smk_plan_states.specs.Keys.{has_key}
use Rattle.smk_plan_states.proofs.ways.read_in.Given as goal

abbrev pub invariant-loop-job : goal.invariant-loop-job
invariant-loop-job l = (q : List ℕ) →
    (has_key l.read q || list_any (λ j. list_any (λ item. among item.paths q) j.recipe.inputs) (drop l.job-index l.jobs))
    ≡ list_any (λ j. list_any (λ item. among item.paths q) j.recipe.inputs) l.jobs
