use Rattle.std.proofs.Common.{◌++◌, ◌∙◌, ap, sym, subst, List}
use Rattle.std.specs.List.{AllByRecursion, flat_map}
use Rattle.smk_world.proofs.Devices.{looked_on, looked_memory}
use Rattle.smk_choose.specs.declared.choice.Making.{Making}
use Rattle.smk_choose.specs.Told.{told_by}
use Rattle.smk_chain_sight.specs.Reaching.{IsPlaced, paths_by}
use Rattle.smk_chain_sight.proofs.Distinct.{once}
use Rattle.smk_chain_sight.proofs.Spreading.{jobs_placed, step_added}
use Rattle.smk_chain_sight.proofs.reaching.step.Goals as goal

pub returns-in_err-jobs-clause-looked : goal.returns-in_err-jobs-clause-looked
returns-in_err-jobs-clause-looked g c =
    looked_on _ c.in_err-jobs.was c.from_residual.ensures.1 c.tell_around.ensures.looked

pub add_jobs-requires-clause-placed : goal.add_jobs-requires-clause-placed
add_jobs-requires-clause-placed g c =
    subst (λ (ms : List Making). AllByRecursion (IsPlaced c.args.ground.now.flow.now) ms) (sym c.deref.ensures.value)
    (jobs_placed c.args.ground.now.flow.now (told_by c.tell_around.new.eye.sources) c.args.path.now c.in_ok-jobs.jobs.items c.in_ok-jobs.ensures.jobs)

pub returns-in_err-add_jobs-clause-looked : goal.returns-in_err-add_jobs-clause-looked
returns-in_err-add_jobs-clause-looked g c =
    looked_memory _ c.from_residual-in_err-add_jobs.ensures.1 c.in_ok-jobs.ensures.looked

pub returns-clause-looked : goal.returns-clause-looked
returns-clause-looked g c =
    c.in_ok-jobs.ensures.looked

pub returns-clause-told : goal.returns-clause-told
returns-clause-told g c = c.in_ok-jobs.ensures.told

pub returns-clause-listed : goal.returns-clause-listed
returns-clause-listed g c = c.in_ok-jobs.ensures.listed

pub returns-clause-added : goal.returns-clause-added
returns-clause-added g c = λ S says.
    step_added c.args.ground.now.flow.now c.args.ground.now.lists.now c.tell_around.new.eye S c.args.path.now c.in_ok-jobs.jobs.items c.args.found.now.paths.items _ says c.in_ok-jobs.ensures.listed c.in_ok-jobs.ensures.jobs
    (c.in_ok-add_jobs.ensures.added ∙ ap (λ (ms : List Making). once (c.args.found.now.paths.items ++ flat_map (paths_by c.args.ground.now.flow.now c.args.ground.now.lists.now) ms)) c.deref.ensures.value)
