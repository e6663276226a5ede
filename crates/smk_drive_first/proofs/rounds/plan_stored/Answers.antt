use Rattle.std.proofs.Common.{ap, sym, subst}
use Rattle.smk_world.proofs.Devices.{looked_as, looked_then}
use Rattle.smk_store.specs.Loading.{IsStoreOf}
use Rattle.smk_store.specs.Images.{seen}
use Rattle.smk_chain_derive.proofs.Seen.{seen_lists_known}
use Rattle.smk_plan_preview.specs.Faults.{device_failed}
use Rattle.smk_plan_preview.specs.Rounds.{IsSighted}
use Rattle.smk_plan_preview.proofs.LookedAt.{kept, seen_moved, none_still}
use Rattle.smk_plan_preview.proofs.Chains.{sight_told, sighted_ok}
use Rattle.smk_drive_first.specs.Keeping.{HasKept}
use Rattle.smk_drive_first.proofs.Kept.{kept_not}
use Rattle.smk_drive_first.proofs.rounds.plan_stored.Goals as goal

pub returns-in-Err-clause-looked : goal.returns-in-Err-clause-looked
returns-in-Err-clause-looked g c = looked_as (ap device_failed c.in-Err.is) c.sighted.ensures.looked

pub returns-in-Err-clause-told : goal.returns-in-Err-clause-told
returns-in-Err-clause-told g c = λ w at none read st.
    kept_not read c.args.ground.now.flow.now c.args.ground.now.settings.now (seen read w) c.args.lists.now c.in-Err.fault
    (sight_told read c.args.ground.now.flow.now c.args.ground.now.settings.now (seen read w) c.args.lists.now c.sighted.result c.in-Err.fault c.in-Err.is
    (c.sighted.ensures.told w at none read st))

pub returns-in-Ok-clause-looked : goal.returns-in-Ok-clause-looked
returns-in-Ok-clause-looked g c = looked_then c.in-Ok.ensures.looked c.plan_sources.ensures.looked

pub returns-in-Ok-clause-told : goal.returns-in-Ok-clause-told
returns-in-Ok-clause-told g c = λ w at none read st.
    let u = kept w c.in-Ok.ensures.looked at in
    let image = seen_moved read w u.0 u.2 in
    subst (λ i. HasKept read c.args.ground.now.flow.now c.args.ground.now.settings.now i c.args.lists.now c.plan_sources.result) image
    (c.plan_sources.ensures.told u.0 u.1 (none_still w u.0 u.2.nodes none) read (subst (λ i. IsStoreOf i c.args.store) (sym image) st)
    (seen_lists_known u.0 ((g.met.W.Files.sound _).formed u.0 u.1) read)
    (subst (λ i. IsSighted c.args.ground.now.flow.now c.args.ground.now.settings.now.targets c.args.lists.now i c.in-Ok.sources) (sym image)
    (sighted_ok c.args.ground.now.flow.now c.args.ground.now.settings.now.targets c.args.lists.now (seen read w) c.sighted.result c.in-Ok.sources c.in-Ok.is
    (c.sighted.ensures.told w at none read st))))
