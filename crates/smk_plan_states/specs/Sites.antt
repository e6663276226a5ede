-- What is known of a path that jobs or targets want.
use Rattle.std.specs.Prelude.{List, Option, option_map}
use Rattle.std.specs.List.{find}
use Rattle.std.specs.Option.{option_and_then}
use Rattle.smk_base.specs.Path.{is_under}
use Rattle.smk_world.specs.Trees.{Path, folder_over}
use Rattle.smk_flow.specs.declared.job.Job.{Job}
use Rattle.smk_store.specs.Images.{Image}
use Rattle.smk_chain.specs.declared.jobs.Maker.{Maker}
use Rattle.smk_plan.specs.Sights.{job_at, is_whole_made}
use Rattle.smk_plan_states.specs.Shapes.{Directory, Parts, Site}
use Rattle.smk_plan_states.specs.Parts.{directory_at}

-- the first directory of the parts that has the path under it
abbrev pub over_in : Path → Option Parts → Option Directory
over_in q parts = option_and_then (λ (m : Parts). find (λ (d : Directory). is_under q d.path) m.directories) parts

-- the directory output of the job over the path
abbrev pub over_of : Image → Path → Option Job → Option Directory
over_of image q job = option_map (directory_at image) (option_and_then (λ (j : Job). folder_over j.recipe q) job)

-- what is known of the path of a maker among these jobs
abbrev pub site_of : Image → List Job → Maker → Site
site_of image jobs m =
    record { job = m.job; whole = is_whole_made image jobs m; over = over_of image m.path (option_and_then (job_at jobs) m.job) }
