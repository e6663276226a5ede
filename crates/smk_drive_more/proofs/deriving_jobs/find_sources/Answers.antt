use Rattle.std.proofs.Common.{ap, inl, sym, subst}
use Rattle.smk_world.proofs.Devices.{looked_as, looked_then}
use Rattle.smk_store.specs.Images.{seen}
use Rattle.smk_store.specs.Loading.{IsStoreOf}
use Rattle.smk_chain_derive.proofs.Seen.{seen_lists_known}
use Rattle.smk_plan_preview.specs.Faults.{device_failed}
use Rattle.smk_plan_preview.specs.Rounds.{IsSighted, Sights}
use Rattle.smk_plan_preview.proofs.Chains.{sighted_ok}
use Rattle.smk_plan_preview.proofs.LookedAt.{kept, seen_moved}
use Rattle.smk_drive_more.proofs.Told.{covered_still, found_before}
use Rattle.smk_drive_more.proofs.deriving_jobs.find_sources.Goals as goal

pub returns-in-Err-clause-looked : goal.returns-in-Err-clause-looked
returns-in-Err-clause-looked g c = looked_as (ap device_failed c.in-Err.is) c.sighted.ensures.looked

pub returns-in-Err-clause-told : goal.returns-in-Err-clause-told
returns-in-Err-clause-told g c = λ w at covered read st told.
    inl
    (subst (Sights c.args.basis.now.flow.now c.args.basis.now.settings.now.targets c.args.lists.now (seen read w)) c.in-Err.is
    (c.sighted.ensures.told w at covered read st) told)

pub returns-in-Ok-clause-looked : goal.returns-in-Ok-clause-looked
returns-in-Ok-clause-looked g c = looked_then c.in-Ok.ensures.looked c.find_jobs.ensures.looked

pub returns-in-Ok-clause-told : goal.returns-in-Ok-clause-told
returns-in-Ok-clause-told g c = λ w at covered read st.
    let u = kept w c.in-Ok.ensures.looked at in
    let image = seen_moved read w u.0 u.2 in
    found_before read c.args.basis.now.flow.now c.args.basis.now.settings.now w u.0 u.2 c.args.lists.now c.find_jobs.result
    (c.find_jobs.ensures.told u.0 u.1 (covered_still w u.0 c.args.store u.2.nodes covered) read (subst (λ i. IsStoreOf i c.args.store) (sym image) st)
    (seen_lists_known u.0 ((g.met.W.Files.sound _).formed u.0 u.1) read)
    (subst (λ i. IsSighted c.args.basis.now.flow.now c.args.basis.now.settings.now.targets c.args.lists.now i c.in-Ok.sources) (sym image)
    (sighted_ok c.args.basis.now.flow.now c.args.basis.now.settings.now.targets c.args.lists.now (seen read w) c.sighted.result c.in-Ok.sources c.in-Ok.is
    (c.sighted.ensures.told w at covered read st))))
