-- What is known and seen at any path but some outputs, and the facts of jobs that are told anew once it has changed at these alone.
use Rattle.std.specs.Prelude.{◌≡◌, ℕ, suc, Bool, false, List, [], ◌∷◌, ◌++◌, map, if◌then◌else◌}
use Rattle.std.specs.List.{list_any}
use Rattle.smk_base.specs.Path.{is_at_or_under}
use Rattle.smk_world.specs.declared.recipe.Out.{Out}
use Rattle.smk_world.specs.World.{in_paths}
use Rattle.smk_world.specs.Trees.{Path, among, outs_of}
use Rattle.smk_flow.specs.declared.job.Job.{Job}
use Rattle.smk_store.specs.Stores.{Known, entry_of}
use Rattle.smk_plan.specs.declared.seen.Sight.{Sight}
use Rattle.smk_plan.specs.Sights.{sight_at}

-- ## Outputs

abbrev pub paths_in : List Out → List Path
paths_in outs = map (λ (o : Out). o.path) outs

-- the path is one of the outputs, or lies under one
abbrev pub is_over : List Out → Path → Bool
is_over outs q = list_any (λ (o : Out). is_at_or_under q o.path) outs

-- the job reads one of the outputs, or what lies under one
abbrev pub is_user : List Out → Job → Bool
is_user outs k = list_any (is_over outs) (in_paths k.recipe)

-- Of each path but these outputs the same is known, and the same was seen at it.
pub record AreSameBut (outs : List Out) (old new : List Known) (saw sees : List Sight) : Type 0 where
  pub known : (q : Path) → among (paths_in outs) q ≡ false → entry_of new q ≡ entry_of old q
  pub seen : (q : Path) → among (paths_in outs) q ≡ false → sight_at sees q ≡ sight_at saw q

-- ## Readers

-- the numbers of the jobs that read at or under one of these outputs; the first of the jobs has the number n
abbrev pub users_from : List Out → ℕ → List Job → List ℕ
users_from outs n [] = []
users_from outs n (k ∷ jobs) = (if is_user outs k then n ∷ [] else []) ++ users_from outs (suc n) jobs

-- for each job those that read at or under one of its outputs
abbrev pub readers_of : List Job → List (List ℕ)
readers_of jobs = map (λ (j : Job). users_from (outs_of j.recipe) 0 jobs) jobs
