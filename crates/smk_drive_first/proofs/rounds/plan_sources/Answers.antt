use Rattle.std.proofs.Common.{ap, sym, ◌∙◌, subst}
use Rattle.smk_world.proofs.Devices.{looked_nothing, looked_as}
use Rattle.smk_store.specs.Images.{seen}
use Rattle.smk_chain.specs.Derive.{Listings}
use Rattle.smk_plan_preview.specs.Faults.{device_failed}
use Rattle.smk_plan_preview.proofs.Agreed.{names_all}
use Rattle.smk_plan_preview.proofs.Chains.{derivation_told}
use Rattle.smk_plan_preview.proofs.Rounded.{ready_as}
use Rattle.smk_drive_first.specs.Keeping.{HasKept}
use Rattle.smk_drive_first.proofs.Kept.{kept_not, lists_of}
use Rattle.smk_drive_first.proofs.rounds.plan_sources.Goals as goal

pub returns-in-Err-clause-looked : goal.returns-in-Err-clause-looked
returns-in-Err-clause-looked g c =
    looked_as (sym c.derived.ensures.no_device ∙ ap device_failed c.in-Err.is) (looked_nothing g.W.Files.act _)

pub returns-in-Err-clause-told : goal.returns-in-Err-clause-told
returns-in-Err-clause-told g c = λ w at none read st listed sighted.
    kept_not read c.args.ground.now.flow.now c.args.ground.now.settings.now (seen read w) c.args.lists.now c.in-Err.fault
    (derivation_told read c.args.ground.now.flow.now c.args.ground.now.settings.now (seen read w) c.args.lists.now c.derived.result c.in-Err.fault c.in-Err.is
    (c.derived.ensures.told (seen read w) (names_all read w ((g.met.W.Files.sound _).formed w at)) st listed sighted))

pub returns-in-Ok-clause-lists : goal.returns-in-Ok-clause-lists
returns-in-Ok-clause-lists g c = lists_of c.plan_jobs.result c.in-Ok.jobs c.args.lists.now c.in-Ok.ensures.lists c.plan_jobs.ensures.jobs

pub returns-in-Ok-clause-told : goal.returns-in-Ok-clause-told
returns-in-Ok-clause-told g c = λ w at none read st listed sighted.
    subst (λ (l : Listings). HasKept read c.args.ground.now.flow.now c.args.ground.now.settings.now (seen read w) l c.plan_jobs.result) c.in-Ok.ensures.lists
    (c.plan_jobs.ensures.told w at none read st
    (ready_as c.args.ground.now.flow.now c.args.ground.now.settings.now.targets (seen read w) c.in-Ok.jobs c.derived.result c.args.lists.now c.in-Ok.is c.in-Ok.ensures.lists
    (c.derived.ensures.told (seen read w) (names_all read w ((g.met.W.Files.sound _).formed w at)) st listed sighted)))
