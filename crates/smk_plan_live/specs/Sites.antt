-- Which job makes each output.
use Rattle.std.specs.Prelude.{ℕ, suc, List, [], ◌∷◌, bytes_eq, if◌then◌else◌, Option, Some, None}
use Rattle.smk_world.specs.declared.recipe.Out.{Out}
use Rattle.smk_world.specs.Trees.{Path, outs_of}
use Rattle.smk_flow.specs.declared.job.Job.{Job}
use Rattle.smk_plan_live.specs.declared.sites.Site.{Site}

-- the site of the path among these outputs of the job of the number n, the first of which is in the place k; and else the one that was found later
abbrev pub site_outs : ℕ → ℕ → List Out → Option Site → Path → Option Site
site_outs n k [] later q = later
site_outs n k (o ∷ outs) later q = if bytes_eq o.path q then Some (record { job = n; place = k }) else site_outs n (suc k) outs later q

-- the site of the path as an output: of the first of these jobs that has it; the first job has the number n
abbrev pub site_in : ℕ → List Job → Path → Option Site
site_in n [] q = None
site_in n (j ∷ jobs) q = site_outs n 0 (outs_of j.recipe) (site_in (suc n) jobs q) q

abbrev pub out_path : Out → Path
out_path o = o.path
