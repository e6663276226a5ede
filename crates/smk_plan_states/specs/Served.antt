-- Which job makes what the jobs and targets of a plan want, as it is told.
use Rattle.std.specs.Prelude.{◌≡◌, ◌<◌, ℕ, suc, false, List, [], ◌∷◌, ◌++◌, Option, Some, None}
use Rattle.std.specs.List.{find, flat_map}
use Rattle.std.specs.Option.{option_and_then}
use Rattle.smk_base.specs.Path.{overlaps}
use Rattle.smk_world.specs.World.{in_paths, out_paths}
use Rattle.smk_world.specs.Trees.{Path, Each}
use Rattle.smk_flow.specs.declared.job.Job.{Job}
use Rattle.smk_chain.specs.declared.jobs.Jobs.{Jobs}
use Rattle.smk_chain_walk.specs.Links.{maker_told}
use Rattle.smk_plan.specs.States.{makes, gathers_from}
use Rattle.smk_plan.specs.Sights.{job_at}

-- no two of the paths are equal or lie one under the other
abbrev pub AreApart : List Path → Type 0
AreApart [] = Unit {0}
AreApart (p ∷ ps) = Each (λ q. overlaps q p ≡ false) ps × AreApart ps

abbrev pub outputs_of : List Job → List Path
outputs_of jobs = flat_map (λ (j : Job). out_paths j.recipe) jobs

-- It is told which job makes the path: the one of this number, or none.
pub record IsToldOf (jobs : Jobs) (q : Path) : Type 0 where
  pub number : Option ℕ
  pub told : maker_told jobs.makers q ≡ Some number
  pub right : find (λ j. makes j q) jobs.jobs ≡ option_and_then (job_at jobs.jobs) number

-- no number, or one below n
abbrev pub IsBelow : ℕ → Option ℕ → Type 0
IsBelow n None = Unit {0}
IsBelow n (Some k) = k < n

-- It is told so of each path that these jobs read or gather from, and none is made by the same job or a later one; the first of the jobs
-- has the number n.
abbrev pub ReadEarlier : Jobs → ℕ → List Job → Type 0
ReadEarlier all n [] = Unit {0}
ReadEarlier all n (j ∷ jobs) =
    Each (λ q. (t : IsToldOf all q) × IsBelow n t.number) (in_paths j.recipe ++ gathers_from j) × ReadEarlier all (suc n) jobs

-- Jobs whose outputs lie apart, and of which it is told which of them make what they read, and what these targets are: each is made by an
-- earlier job than its users.
pub record AreServed (jobs : Jobs) (asked : List Path) : Type 0 where
  pub apart : AreApart (outputs_of jobs.jobs)
  pub targets : Each (IsToldOf jobs) asked
  pub reads : ReadEarlier jobs 0 jobs.jobs
