use Rattle.std.proofs.Common.{ap, sym, subst, ◌∙◌, true≢false}
use Rattle.smk_world.proofs.Devices.{looked_as, looked_then}
use Rattle.smk_store.specs.Loading.{IsStoreOf}
use Rattle.smk_plan_preview.specs.Faults.{device_failed}
use Rattle.smk_plan_preview.proofs.LookedAt.{kept, seen_moved}
use Rattle.smk_drive_more.proofs.Told.{covered_still, found_before}
use Rattle.smk_drive_more.proofs.deriving_jobs.find_with.Goals as goal

pub returns-in-Err-clause-looked : goal.returns-in-Err-clause-looked
returns-in-Err-clause-looked g c = looked_as (ap device_failed c.in-Err.is) c.stored.ensures.looked

pub returns-in-Err-clause-told : goal.returns-in-Err-clause-told
returns-in-Err-clause-told g c = λ w at read reads beside told. absurd (true≢false (sym told ∙ c.in-Err.ensures.untold))

pub returns-in-Ok-clause-looked : goal.returns-in-Ok-clause-looked
returns-in-Ok-clause-looked g c = looked_then c.in-Ok.ensures.looked c.find_sources.ensures.looked

pub returns-in-Ok-clause-told : goal.returns-in-Ok-clause-told
returns-in-Ok-clause-told g c = λ w at read reads beside.
    let u = kept w c.in-Ok.ensures.looked at in
    let image = seen_moved read w u.0 u.2 in
    let st = c.in-Ok.ensures.told w at beside.own read reads in
    found_before read c.args.basis.now.flow.now c.args.basis.now.settings.now w u.0 u.2 c.args.lists.now c.find_sources.result
    (c.find_sources.ensures.told u.0 u.1 (covered_still w u.0 c.in-Ok.store u.2.nodes (beside.covered c.in-Ok.store st)) read
    (subst (λ i. IsStoreOf i c.in-Ok.store) (sym image) st))
