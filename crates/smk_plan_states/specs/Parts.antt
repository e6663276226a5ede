-- What is looked at of a job.
use Rattle.std.specs.Prelude.{Bool, List, [], ◌∷◌, map, filter, not, if◌then◌else◌}
use Rattle.smk_world.specs.declared.recipe.Kind.TheVariants.{Folder}
use Rattle.smk_world.specs.declared.recipe.Out.{Out}
use Rattle.smk_world.specs.World.{in_paths, out_paths}
use Rattle.smk_world.specs.Trees.{Path, outs_of, folders_of, is_folder_kind}
use Rattle.smk_flow.specs.declared.job.Job.{Job}
use Rattle.smk_store.specs.Images.{Image, is_whole}
use Rattle.smk_plan.specs.States.{gathers_from}
use Rattle.smk_plan_states.specs.Shapes.{Directory, Parts}

-- the output, where it isn't whole
abbrev pub gone_of : Out × Bool → List Path
gone_of (o, whole) = if whole then [] else o.path ∷ []

-- the output, where it is a directory
abbrev pub directory_of : Out × Bool → List Directory
directory_of (o, whole) = if is_folder_kind o.kind then record { path = o.path; whole = whole } ∷ [] else []

module _ (image : Image) where
  -- a directory output, and whether it is whole
  abbrev pub directory_at : Path → Directory
  directory_at p = record { path = p; whole = is_whole image p Folder }

  -- its outputs that aren't whole
  abbrev pub gone_outputs : Job → List Path
  gone_outputs j = map (λ (o : Out). o.path) (filter (λ (o : Out). not (is_whole image o.path o.kind)) (outs_of j.recipe))

  abbrev pub parts_of : Job → Parts
  parts_of j =
      record {
        inputs = in_paths j.recipe;
        gathers = gathers_from j;
        outputs = out_paths j.recipe;
        temps = j.temps;
        gone = gone_outputs j;
        directories = map directory_at (folders_of j.recipe);
      }
