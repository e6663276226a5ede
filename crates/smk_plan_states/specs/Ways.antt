-- How paths are looked up while a table of states is made.
use Rattle.std.specs.Prelude.{◌≡◌, ℕ, suc, Bool, ◌||◌, List, [], ◌∷◌, ◌++◌, map, bytes_eq, if◌then◌else◌, Option, Some, None}
use Rattle.std.specs.List.{find, slice_get}
use Rattle.std.specs.Option.{option_and_then}
use Rattle.std.specs.BTreeSet.{contains_text}
use Rattle.smk_base.specs.Path.{is_under}
use Rattle.smk_world.specs.declared.recipe.Out.{Out}
use Rattle.smk_world.specs.Trees.{Path, among, outs_of, is_folder_kind}
use Rattle.smk_flow.specs.declared.job.Job.{Job}
use Rattle.smk_chain.specs.declared.jobs.Jobs.{Jobs}
use Rattle.smk_plan_states.specs.declared.folders.Folder.{Folder}
use Rattle.smk_plan_states.specs.declared.lines.Input.{Input}
use Rattle.smk_plan_states.specs.declared.ways.Ways.{Ways}
use Rattle.smk_plan_states.specs.declared.making.Wants.{Wants}
use Rattle.smk_plan_states.specs.Keys.{at_key, has_key}
use Rattle.smk_plan_states.specs.Lines.{link_to, is_listed, is_read, awaited_paths, is_of_other, feeds}

-- ## Directory outputs

-- the output with its place, where it is a directory
abbrev pub placed_one : ℕ → Out → List Folder
placed_one n o = if is_folder_kind o.kind then record { place = n; path = o.path } ∷ [] else []

-- those of these outputs, of which the first has this place
abbrev pub placed : ℕ → List Out → List Folder
placed n [] = []
placed n (o ∷ os) = placed_one n o ++ placed (suc n) os

abbrev pub folders_placed : Job → List Folder
folders_placed j = placed 0 (outs_of j.recipe)

-- the first that has the path under it
abbrev pub first_over : Path → List Folder → Option Folder
first_over q folders = find (λ (f : Folder). is_under q f.path) folders

-- the first of the job with this number
abbrev pub folder_in : List (List Folder) → Option ℕ → Path → Option Folder
folder_in folders number q = option_and_then (first_over q) (option_and_then (slice_get folders) number)

-- ## Links

-- the place of the first element that passes, where these begin in the place n
abbrev pub place_from : {A : Type 0} → ℕ → (A → Bool) → List A → Option ℕ
place_from n test [] = None
place_from n test (x ∷ xs) = if test x then Some n else place_from (suc n) test xs

-- What is kept of the jobs is so.
pub record AreWays (J : Jobs) (ways : Ways) : Type 0 where
  pub each_job : ways.jobs.now ≡ J.jobs
  pub each_maker : ways.makers.now ≡ J.makers
  pub folders : ways.folders ≡ map folders_placed J.jobs
  pub links : (q : Path) → at_key ways.links q ≡ link_to J.makers q
  pub listed : (q : Path) → contains_text ways.listed q ≡ is_listed J q

-- What is wanted of the jobs and targets is so.
pub record AreWants (J : Jobs) (asked : List Path) (wants : Wants) : Type 0 where
  pub targets : (q : Path) → contains_text wants.targets q ≡ among asked q
  pub awaited : (q : Path) → contains_text wants.awaited q ≡ among (awaited_paths J asked) q
  pub read : (q : Path) → has_key wants.read q ≡ is_read J q

-- These are the outputs of the job that are flagged `temp`, and it is told whether it makes an awaited directory.
pub record AreTemps (J : Jobs) (asked : List Path) (j : Job) (temps : Path → Bool) (fed : Bool) : Type 0 where
  pub temps_are : (q : Path) → temps q ≡ among j.temps q
  pub fed_is : fed ≡ feeds J asked j

-- ## Inputs

-- the inputs of the job of the name, where these paths come before
abbrev pub inputs_by : Jobs → Path → (Path → Bool) → List Path → List Input
inputs_by J name seen [] = []
inputs_by J name seen (q ∷ paths) =
    record { path = q; link = link_to J.makers q; again = seen q; other = is_of_other J name q } ∷ inputs_by J name (λ p. bytes_eq p q || seen p) paths
