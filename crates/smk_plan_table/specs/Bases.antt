-- What a plan is made from where no child runs.
use Rattle.std.specs.Prelude.{◌≡◌, List}
use Rattle.std.specs.List.{AllZip}
use Rattle.smk_store.specs.Stores.{Known}
use Rattle.smk_chain.specs.declared.jobs.Jobs.{Jobs}
use Rattle.smk_plan.specs.declared.seen.Sight.{Sight}
use Rattle.smk_plan.specs.Sights.{wholes_of}
use Rattle.smk_plan_states.specs.Judged.{Judging, AreJudged}
use Rattle.smk_plan_table.specs.declared.judging.Basis.{Basis}
use Rattle.smk_plan_table.specs.Parts.{IsSuspectOf}
use Rattle.smk_plan_table.specs.Plans.{begun_at}

-- It is so where the jobs are judged: what is judged and what is whole, which of the jobs have begun, and of which something may be refused.
pub record IsBasisAt (at : Judging) (jobs : Jobs) (store : List Known) (seen : List Sight) (basis : Basis) : Type 0 where
  pub judged : AreJudged at jobs basis.judged
  pub wholes : basis.wholes ≡ wholes_of at.image jobs
  pub begun : basis.begun.items ≡ begun_at at.progress jobs.jobs
  pub doubted : AllZip (IsSuspectOf store seen at.settings.bounds) jobs.jobs basis.suspects.items
