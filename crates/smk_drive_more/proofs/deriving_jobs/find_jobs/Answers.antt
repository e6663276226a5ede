use Rattle.std.proofs.Common.{ap, inr, sym, ◌∙◌, subst}
use Rattle.smk_world.proofs.Devices.{looked_as, looked_nothing}
use Rattle.smk_store.specs.Images.{seen}
use Rattle.smk_chain.specs.Derive.{Listings}
use Rattle.smk_plan_preview.specs.Faults.{device_failed}
use Rattle.smk_plan_preview.specs.Rounds.{Derives}
use Rattle.smk_plan_preview.proofs.Agreed.{names_all}
use Rattle.smk_plan_preview.proofs.Rounded.{ready_as}
use Rattle.smk_drive_more.specs.Found.{HasFound}
use Rattle.smk_drive_more.proofs.Told.{lists_of}
use Rattle.smk_drive_more.proofs.deriving_jobs.find_jobs.Goals as goal

pub returns-in-Err-clause-looked : goal.returns-in-Err-clause-looked
returns-in-Err-clause-looked g c = looked_as (sym c.derived.ensures.no_device ∙ ap device_failed c.in-Err.is) (looked_nothing g.W.Files.act _)

pub returns-in-Err-clause-told : goal.returns-in-Err-clause-told
returns-in-Err-clause-told g c = λ w at covered read st listed sighted told.
    inr
    (subst (Derives c.args.basis.now.flow.now c.args.basis.now.settings.now.targets c.args.lists.now (seen read w)) c.in-Err.is
    (c.derived.ensures.told (seen read w) (names_all read w ((g.met.W.Files.sound _).formed w at)) st listed sighted) told)

pub returns-in-Ok-clause-lists : goal.returns-in-Ok-clause-lists
returns-in-Ok-clause-lists g c = lists_of c.look_around.result c.in-Ok.jobs c.args.lists.now c.in-Ok.ensures.lists c.look_around.ensures.lists

pub returns-in-Ok-clause-told : goal.returns-in-Ok-clause-told
returns-in-Ok-clause-told g c = λ w at covered read st listed sighted.
    subst (λ (l : Listings). HasFound read c.args.basis.now.flow.now c.args.basis.now.settings.now w l c.look_around.result) c.in-Ok.ensures.lists
    (c.look_around.ensures.told w at covered read st
    (ready_as c.args.basis.now.flow.now c.args.basis.now.settings.now.targets (seen read w) c.in-Ok.jobs c.derived.result c.args.lists.now c.in-Ok.is c.in-Ok.ensures.lists
    (c.derived.ensures.told (seen read w) (names_all read w ((g.met.W.Files.sound _).formed w at)) st listed sighted)))
