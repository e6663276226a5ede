-- Jobs that can be run.
use Rattle.std.specs.Prelude.{◌≡◌, ◌<◌, ℕ, suc, true, List, [], ◌∷◌, map, Option, Some, None}
use Rattle.smk_base.specs.declared.tree.Pair.{Pair}
use Rattle.smk_world.specs.World.{in_paths, out_paths, owned_paths}
use Rattle.smk_world.specs.Calls.{are_apart}
use Rattle.smk_world.specs.Trees.{Path, Each}
use Rattle.smk_record.specs.Records.{are_rising}
use Rattle.smk_flow.specs.declared.job.Job.{Job}
use Rattle.smk_chain.specs.declared.jobs.Jobs.{Jobs}
use Rattle.smk_plan.specs.Duties.{maker_in}

-- what makes it comes before the job of this number
abbrev pub IsEarlier : ℕ → Option ℕ → Type 0
IsEarlier number None = Unit {0}
IsEarlier number (Some n) = n < number

-- The job of this number can be run: it has an output, its outputs and logs don't overlap one another, the names of its wildcards rise, and
-- what makes its inputs comes before it.
pub record IsRunnable (maker : Path → Option ℕ) (number : ℕ) (job : Job) : Type 0 where
  pub makes : out_paths job.recipe ≡ [] → ⊥
  pub apart : are_apart (owned_paths job.recipe job.logs) ≡ true
  pub wildcards : are_rising (map (λ (w : Pair). w.name) job.recipe.wildcards) ≡ true
  pub earlier : Each (λ p. IsEarlier number (maker p)) (in_paths job.recipe)

abbrev pub AreRunnableFrom : (Path → Option ℕ) → ℕ → List Job → Type 0
AreRunnableFrom maker number [] = Unit {0}
AreRunnableFrom maker number (job ∷ jobs) = IsRunnable maker number job × AreRunnableFrom maker (suc number) jobs

-- each job can be run
abbrev pub AreRunnable : Jobs → Type 0
AreRunnable jobs = AreRunnableFrom (maker_in jobs.makers) 0 jobs.jobs
