use Rattle.std.proofs.Common.{◌≡◌, subst, true}
use Rattle.std.specs.List.{list_all}
use Rattle.smk_plan_facts.specs.Telling.{has_path_texts}
use Rattle.smk_plan_facts.proofs.Entries.{if_any}
use Rattle.smk_plan_facts.proofs.judged.facts_told.Goals as goal

pub returns-clause-texts : goal.returns-clause-texts
returns-clause-texts g c = if_any c.told_facts.result _ (subst (λ js. list_all has_path_texts js ≡ true) c.as_slice.ensures c.see_jobs.ensures)
