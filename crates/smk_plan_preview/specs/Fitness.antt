-- What holds of derived jobs whatever the folder is.
use Rattle.std.specs.Prelude.{◌≡◌, length}
use Rattle.smk_chain.specs.declared.jobs.Jobs.{Jobs}
use Rattle.smk_chain_walk.specs.Links.{AreLower}
use Rattle.smk_plan.specs.Runnable.{AreRunnable}

-- each can be run, and those before it have lower numbers
pub record AreFit (jobs : Jobs) : Type 0 where
  pub runnable : AreRunnable jobs
  pub lower : AreLower 0 jobs.befores
  pub befores : length jobs.befores ≡ length jobs.jobs
