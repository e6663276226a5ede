use Rattle.std.proofs.Common.{subst}
use Rattle.std.specs.List.{flat_map}
use Rattle.smk_plan_look.specs.Gathering.{HasAdded, job_paths, source_path}
use Rattle.smk_plan_look.proofs.Held.{added_then}
use Rattle.smk_plan_look.proofs.paths.paths_in.Goals as goal

pub returns : goal.returns
returns c =
    (added_then _ c.add_jobs.new.paths c.add_sources.new.paths (flat_map job_paths c.args.jobs.now.jobs) (flat_map source_path c.args.jobs.now.makers) (subst (λ js. HasAdded c.new-paths.result c.add_jobs.new.paths (flat_map job_paths js)) c.as_slice.ensures c.in_ok-add_jobs.ensures)
    (subst (λ ms. HasAdded c.add_jobs.new.paths c.add_sources.new.paths (flat_map source_path ms)) c.as_slice-2.ensures c.in_ok-add_sources.ensures)).has
