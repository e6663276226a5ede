use Rattle.std.proofs.Common.{refl}
use Rattle.rows_jobs.proofs.Bare.{bare_of}
use Rattle.rows_jobs.proofs.jobs.record_of.Goals as goal

pub returns-in-Some : goal.returns-in-Some
returns-in-Some c = bare_of _ _ _ _ _ _ (c.in-Some.ensures.valid.0 refl) c.in-Some.ensures.value c.new.ensures c.in_ok-recipe.ensures
