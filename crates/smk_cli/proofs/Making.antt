-- Jobs that can be run make something.
use Rattle.std.proofs.Common.{◌≢◌, ℕ, List, [], ◌∷◌, suc, Option}
use Rattle.smk_world.specs.Trees.{Path, Each}
use Rattle.smk_world.specs.World.{out_paths}
use Rattle.smk_flow.specs.declared.job.Job.{Job}
use Rattle.smk_plan.specs.Runnable.{AreRunnableFrom}

pub all_make : (maker : Path → Option ℕ) (number : ℕ) (jobs : List Job) → AreRunnableFrom maker number jobs → Each (λ (job : Job). out_paths job.recipe ≢ []) jobs
all_make maker number [] h = h
all_make maker number (job ∷ jobs) h = (h.0.makes, all_make maker (suc number) jobs h.1)
