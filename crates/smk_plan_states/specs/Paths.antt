-- What is kept of paths.
use Rattle.std.specs.Prelude.{◌≡◌, List, ◌++◌, map, bytes_eq, Option, option_map}
use Rattle.std.specs.List.{find, flat_map, list_any}
use Rattle.std.specs.Option.{option_and_then}
use Rattle.smk_world.specs.World.{in_paths}
use Rattle.smk_world.specs.Trees.{Path, among}
use Rattle.smk_flow.specs.declared.job.Job.{Job}
use Rattle.smk_store.specs.Images.{Image}
use Rattle.smk_chain.specs.declared.jobs.Jobs.{Jobs}
use Rattle.smk_chain.specs.declared.jobs.Known.{Known}
use Rattle.smk_chain.specs.declared.jobs.Maker.{Maker}
use Rattle.smk_plan.specs.States.{none_or_one}
use Rattle.smk_plan_states.specs.Shapes.{Directory, Parts, Paths, Site}
use Rattle.smk_plan_states.specs.Parts.{parts_of}
use Rattle.smk_plan_states.specs.Sites.{site_of}

-- the directory output over the path, by what is known of it
abbrev pub over_told : Option Site → List Path
over_told site = none_or_one (option_map (λ (d : Directory). d.path) (option_and_then (λ (s : Site). s.over) site))

abbrev pub over_paths : (Path → Option Site) → Path → List Path
over_paths sites q = over_told (sites q)

-- the directories that a job awaits
abbrev pub awaits_told : (Path → Option Site) → Parts → List Path
awaits_told sites m = m.gathers ++ flat_map (over_paths sites) (m.inputs ++ m.gathers)

-- those that jobs await, and those of which a target is a member
abbrev pub awaited_told : (Path → Option Site) → List Parts → List Path → List Path
awaited_told sites parts targets = flat_map (awaits_told sites) parts ++ flat_map (over_paths sites) targets

-- what is known of a path, by the makers
abbrev pub site_at : Image → Jobs → Path → Option Site
site_at image jobs q = option_map (site_of image jobs.jobs) (find (λ (m : Maker). bytes_eq m.path q) jobs.makers)

-- What is kept of the paths of these jobs and targets is so.
pub record ArePaths (image : Image) (jobs : Jobs) (asked : List Path) (paths : Paths) : Type 0 where
  pub sites : (q : Path) → paths.sites q ≡ site_at image jobs q
  pub awaited : (q : Path) → paths.awaited q ≡ among (awaited_told (site_at image jobs) (map (parts_of image) jobs.jobs) asked) q
  pub targets : (q : Path) → paths.targets q ≡ among asked q
  pub read : (q : Path) → paths.read q ≡ list_any (λ (j : Job). among (in_paths j.recipe) q) jobs.jobs
  pub listed : (q : Path) → paths.listed q ≡ among (map (λ (k : Known). k.folder) jobs.lists) q

-- the same as a value
abbrev pub paths_of : Image → Jobs → List Path → Paths
paths_of image jobs asked =
    record {
      sites = site_at image jobs;
      awaited = λ q. among (awaited_told (site_at image jobs) (map (parts_of image) jobs.jobs) asked) q;
      targets = λ q. among asked q;
      read = λ q. list_any (λ (j : Job). among (in_paths j.recipe) q) jobs.jobs;
      listed = λ q. among (map (λ (k : Known). k.folder) jobs.lists) q;
    }
