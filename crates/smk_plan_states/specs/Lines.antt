-- How the paths of jobs and targets hang together, by numbers: this depends on jobs and targets alone, and on no image.
use Rattle.std.specs.Prelude.{ℕ, suc, Bool, ◌&&◌, ◌||◌, not, List, [], ◌∷◌, ◌++◌, map, bytes_eq, if◌then◌else◌, Option, Some, None, option_map, is_none, true, false}
use Rattle.std.specs.List.{find, flat_map, list_any}
use Rattle.std.specs.Option.{option_and_then}
use Rattle.smk_base.specs.Path.{is_under}
use Rattle.smk_world.specs.declared.recipe.Out.{Out}
use Rattle.smk_world.specs.World.{in_paths, out_paths}
use Rattle.smk_world.specs.Trees.{Path, among, first, outs_of, is_folder_kind, folder_over}
use Rattle.smk_flow.specs.declared.job.Job.{Job}
use Rattle.smk_chain.specs.declared.jobs.Jobs.{Jobs}
use Rattle.smk_chain.specs.declared.jobs.Known.{Known}
use Rattle.smk_chain.specs.declared.jobs.Maker.{Maker}
use Rattle.smk_plan.specs.States.{gathers_from, job_path, none_or_one, test_some}
use Rattle.smk_plan.specs.Sights.{job_at}
use Rattle.smk_plan_states.specs.declared.lines.Input.{Input}
use Rattle.smk_plan_states.specs.declared.lines.Gathered.{Gathered}
use Rattle.smk_plan_states.specs.declared.lines.Output.{Output}
use Rattle.smk_plan_states.specs.declared.lines.Temp.{Temp}
use Rattle.smk_plan_states.specs.declared.lines.Line.{Line}
use Rattle.smk_plan_states.specs.declared.lines.Origin.{Origin}
use Rattle.smk_plan_states.specs.declared.lines.Target.{Target}
use Rattle.smk_plan_states.specs.declared.lines.Awaited.{Awaited}

-- ## Numbers

-- the place of the first element that passes
abbrev pub first_place : {A : Type 0} → (A → Bool) → List A → Option ℕ
first_place test [] = None
first_place test (x ∷ xs) = if test x then Some 0 else option_map suc (first_place test xs)

abbrev pub tells_of : Path → Maker → Bool
tells_of q m = bytes_eq m.path q

-- the number of the first maker that tells of the path
abbrev pub link_to : List Maker → Path → Option ℕ
link_to makers q = first_place (tells_of q) makers

-- the job that is told to make the path of the maker
abbrev pub job_of : List Job → Maker → Option Job
job_of jobs m = option_and_then (job_at jobs) m.job

-- the output is a directory that has the path under it
abbrev pub is_over : Path → Out → Bool
is_over q o = is_folder_kind o.kind && is_under q o.path

-- the place of the first such output of the job
abbrev pub place_over : Path → Job → Option ℕ
place_over q j = first_place (is_over q) (outs_of j.recipe)

abbrev pub origin_of : List Job → Maker → Origin
origin_of jobs m = record { job = m.job; over = option_and_then (place_over m.path) (job_of jobs m) }

module _ (jobs : Jobs) where
  -- the first maker that tells of the path
  abbrev pub maker_to : Path → Option Maker
  maker_to q = find (tells_of q) jobs.makers

  -- the first output of the job that is told to make the path
  abbrev pub name_told : Path → Option Path
  name_told q = option_and_then (λ (j : Job). first (out_paths j.recipe)) (option_and_then (job_of jobs.jobs) (maker_to q))

  -- the directory output over the path, of the job that is told to make it
  abbrev pub folder_told : Path → Option Path
  folder_told q = option_and_then (λ (m : Maker). option_and_then (λ (j : Job). folder_over j.recipe m.path) (job_of jobs.jobs m)) (maker_to q)

  abbrev pub is_listed : Path → Bool
  is_listed d = among (map (λ (k : Known). k.folder) jobs.lists) d

  abbrev pub is_read : Path → Bool
  is_read p = list_any (λ (k : Job). among (in_paths k.recipe) p) jobs.jobs

  -- ## Awaited directories

  -- the directory itself
  abbrev pub gathered_spot : Path → Awaited
  gathered_spot d = record { path = d; link = link_to jobs.makers d; over = false; listed = is_listed d }

  -- the directory over the path
  abbrev pub over_spots : Path → List Awaited
  over_spots q =
      none_or_one (option_map (λ d. record { path = d; link = link_to jobs.makers q; over = true; listed = is_listed d }) (folder_told q))

  -- those that a job awaits
  abbrev pub job_spots : Job → List Awaited
  job_spots j = map gathered_spot (gathers_from j) ++ flat_map over_spots (in_paths j.recipe ++ gathers_from j)

  -- those that jobs await, and those of which a target is a member; one may come again
  abbrev pub all_spots : List Path → List Awaited
  all_spots asked = flat_map job_spots jobs.jobs ++ flat_map over_spots asked

  abbrev pub awaited_paths : List Path → List Path
  awaited_paths asked = map (λ (a : Awaited). a.path) (all_spots asked)

  -- ## Targets

  abbrev pub is_told_source : Path → Maker → Bool
  is_told_source t m = is_none m.job && bytes_eq m.path t

  abbrev pub target_of : Path → Target
  target_of t = record { link = link_to jobs.makers t; source = list_any (is_told_source t) jobs.makers }

  -- ## Jobs

  -- another job than that of the name is told to make the path, and has an output to be named by
  abbrev pub is_of_other : Path → Path → Bool
  is_of_other name q = test_some (λ p. not (bytes_eq p name)) (name_told q)

  -- the inputs of the job of the name, where these come before
  abbrev pub inputs_from : Path → List Path → List Path → List Input
  inputs_from name seen [] = []
  inputs_from name seen (q ∷ paths) =
      record { path = q; link = link_to jobs.makers q; again = among seen q; other = is_of_other name q } ∷ inputs_from name (q ∷ seen) paths

  abbrev pub gathered_of : Path → Gathered
  gathered_of d = record { link = link_to jobs.makers d; listed = is_listed d }

  module _ (asked : List Path) where
    abbrev pub feeds : Job → Bool
    feeds j = list_any (among (awaited_paths asked)) (out_paths j.recipe)

    -- a target; an awaited directory; or an input of a job, unless it is temporary
    abbrev pub is_wanted : Job → Path → Bool
    is_wanted j p = among asked p || (among (awaited_paths asked) p || (not (among j.temps p && not (feeds j)) && is_read p))

    abbrev pub output_of : Job → Path → Output
    output_of j p = record { link = link_to jobs.makers p; wanted = is_wanted j p }

    abbrev pub temp_of : Path → Temp
    temp_of p = record { link = link_to jobs.makers p; target = among asked p }

    abbrev pub line_of : Job → Line
    line_of j =
        record {
          inputs = inputs_from (job_path j) [] (in_paths j.recipe);
          gathers = map gathered_of (gathers_from j);
          outputs = map (output_of j) (out_paths j.recipe);
          temps = map temp_of j.temps;
          feeds = feeds j;
        }
