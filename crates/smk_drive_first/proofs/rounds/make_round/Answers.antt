use Rattle.std.proofs.Common.{ap, sym, subst, ◌∙◌, true≢false}
use Rattle.smk_world.proofs.Devices.{looked_as, looked_then}
use Rattle.smk_store.specs.Images.{seen}
use Rattle.smk_store.specs.Loading.{IsStoreOf}
use Rattle.smk_plan_preview.specs.Faults.{device_failed}
use Rattle.smk_plan_preview.proofs.LookedAt.{kept, seen_moved, none_still}
use Rattle.smk_drive_first.specs.Keeping.{HasKept}
use Rattle.smk_drive_first.proofs.Kept.{kept_not}
use Rattle.smk_drive_first.proofs.rounds.make_round.Goals as goal

pub returns-in-Err-clause-looked : goal.returns-in-Err-clause-looked
returns-in-Err-clause-looked g c = looked_as (ap device_failed c.in-Err.is) c.stored.ensures.looked

pub returns-in-Err-clause-told : goal.returns-in-Err-clause-told
returns-in-Err-clause-told g c = λ w at none read reads.
    kept_not read c.args.ground.now.flow.now c.args.ground.now.settings.now (seen read w) c.args.lists.now c.in-Err.fault
    (λ told. absurd (true≢false (sym told ∙ c.in-Err.ensures.untold)))

pub returns-in-Ok-clause-looked : goal.returns-in-Ok-clause-looked
returns-in-Ok-clause-looked g c = looked_then c.in-Ok.ensures.looked c.plan_stored.ensures.looked

pub returns-in-Ok-clause-told : goal.returns-in-Ok-clause-told
returns-in-Ok-clause-told g c = λ w at none read reads.
    let u = kept w c.in-Ok.ensures.looked at in
    let image = seen_moved read w u.0 u.2 in
    subst (λ i. HasKept read c.args.ground.now.flow.now c.args.ground.now.settings.now i c.args.lists.now c.plan_stored.result) image
    (c.plan_stored.ensures.told u.0 u.1 (none_still w u.0 u.2.nodes none) read
    (subst (λ i. IsStoreOf i c.in-Ok.store) (sym image) (c.in-Ok.ensures.told w at none read reads)))
