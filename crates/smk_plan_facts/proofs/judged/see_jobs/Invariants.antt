use Rattle.std.proofs.Common.{◌≡◌, drop}
use Rattle.std.specs.List.{list_all}
use Rattle.smk_plan_facts.specs.Telling.{has_path_texts}
use Rattle.smk_plan_facts.proofs.judged.see_jobs.Given as goal

abbrev pub invariant-loop-job : goal.invariant-loop-job
invariant-loop-job l = list_all has_path_texts l.jobs ≡ list_all has_path_texts (drop l.job-index l.jobs)
