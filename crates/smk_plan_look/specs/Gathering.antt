-- The paths at which jobs are looked at.
use Rattle.std.specs.Prelude.{◌≡◌, ℕ, true, List, [], ◌∷◌, ◌++◌, map, String, Option, Some, None}
use Rattle.std.specs.Global.{Global}
use Rattle.std.specs.BTreeSet.{BTreeSet, contains_text}
use Rattle.std.specs.List.{flat_map}
use Rattle.smk_world.specs.declared.recipe.Out.{Out}
use Rattle.smk_world.specs.declared.recipe.OutItem.{OutItem}
use Rattle.smk_world.specs.World.{out_paths}
use Rattle.smk_world.specs.Trees.{Path, Each, is_path_text}
use Rattle.smk_flow.specs.declared.job.Job.{Job}
use Rattle.smk_chain.specs.declared.jobs.Jobs.{Jobs}
use Rattle.smk_chain.specs.declared.jobs.Maker.{Maker}

-- a set of texts
abbrev pub Texts : Type 0
Texts = BTreeSet (String Global)

-- the path is in the set
abbrev pub IsHeld : Texts → Path → Type 0
IsHeld texts p = (is_path_text p ≡ true) × (contains_text texts p ≡ true)

-- these paths are in the set, and so is all that was in it
pub record HasAdded (old new : Texts) (paths : List Path) : Type 0 where
  pub keeps : (q : Path) → contains_text old q ≡ true → contains_text new q ≡ true
  pub has : Each (IsHeld new) paths

abbrev pub paths_of : List Out → List Path
paths_of outs = map (λ (o : Out). o.path) outs

abbrev pub item_paths : OutItem → List Path
item_paths item = paths_of item.outs

abbrev pub job_paths : Job → List Path
job_paths j = out_paths j.recipe

abbrev pub unless_made : Path → Option ℕ → List Path
unless_made p None = p ∷ []
unless_made p (Some n) = []

-- the path, where it is a source
abbrev pub source_path : Maker → List Path
source_path m = unless_made m.path m.job

-- the outputs of the jobs, and the sources among the makers
abbrev pub wanted : Jobs → List Path
wanted jobs = flat_map job_paths jobs.jobs ++ flat_map source_path jobs.makers
