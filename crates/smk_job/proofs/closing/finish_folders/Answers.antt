use Rattle.std.proofs.Common.{Ok, Err, true, false, ap, subst, ◌∙◌}
use Rattle.smk_world.specs.Devices.{HasActed}
use Rattle.smk_job.specs.declared.fault.CloseFault.TheVariants.{Device}
use Rattle.smk_job.specs.Jobs.{underway}
use Rattle.smk_job.specs.Sights.{HasFinished, close_failed}
use Rattle.smk_job.proofs.Acts.{free_still}
use Rattle.smk_job.proofs.Rooms.{lets_as, close_free}
use Rattle.smk_job.proofs.Finishing.{has_folders}
use Rattle.smk_job.proofs.Viewed.{each_sized, sized_as, all_kept, kept_cut, all_lost, lost_cut, looks_failed}
use Rattle.smk_job.proofs.closing.finish_folders.Goals as goal

pub keep-requires-clause-each : goal.keep-requires-clause-each
keep-requires-clause-each g c =
    let r = c.going.inside.ready in
    each_sized (underway r.recipe r.logs r.stamps r.made c.going.inside.number) r.outs r.places r.records c.going.invariant c.in-Ok-Records.records
    (sized_as _ c.look_through.result c.in-Ok-Records.records (c.in-Ok-Records.is ∙ ap Ok c.in-Ok-Records.field-0-is) c.look_through.ensures.sizes)

pub keep-requires-clause-unused : goal.keep-requires-clause-unused
keep-requires-clause-unused g c =
    let r = c.going.inside.ready in
    free_still r.places c.look_through.ensures.looked (close_free (g.W.Files.device c.args.work.now) r.recipe r.logs r.places c.going.invariant.at_places (lets_as (g.W.Files.device c.args.work.now) _ _ c.going.view_is c.requires.room))

pub lose-requires : goal.lose-requires
lose-requires g c =
    let r = c.going.inside.ready in
    record { unused = free_still r.places c.look_through.ensures.looked (close_free (g.W.Files.device c.args.work.now) r.recipe r.logs r.places c.going.invariant.at_places (lets_as (g.W.Files.device c.args.work.now) _ _ c.going.view_is c.requires.room)) }

pub returns-in-Ok-clause-acted : goal.returns-in-Ok-clause-acted
returns-in-Ok-clause-acted g c =
    let act = g.W.Files.act in
    let r = c.going.inside.ready in
    let v = c.going.invariant in
    let j = underway r.recipe r.logs r.stamps r.made c.going.inside.number in
    let lets = lets_as (g.W.Files.device c.args.work.now) j c.args.going c.going.view_is c.requires.room in
    subst (λ k. HasActed act (HasFinished k (Ok tt)) (g.W.Files.device c.args.work.now) (g.W.Files.device c.keep.new.work) false) c.going.view_is
    (all_kept j r.outs r.places r.records v act _ (g.met.W.Files.sound c.args.work.now).owned lets _ _ c.in-Ok-Records.records c.look_through.result (c.in-Ok-Records.is ∙ ap Ok c.in-Ok-Records.field-0-is) c.look_through.ensures.looked c.in-Ok.ensures)

pub returns-in-Ok-clause-memory : goal.returns-in-Ok-clause-memory
returns-in-Ok-clause-memory g c = has_folders c.args.going.recipe c.requires.folders

pub returns-in-Ok-Records-clause-acted : goal.returns-in-Ok-Records-clause-acted
returns-in-Ok-Records-clause-acted g c =
    let act = g.W.Files.act in
    let r = c.going.inside.ready in
    let v = c.going.invariant in
    let j = underway r.recipe r.logs r.stamps r.made c.going.inside.number in
    let lets = lets_as (g.W.Files.device c.args.work.now) j c.args.going c.going.view_is c.requires.room in
    subst (λ k. HasActed act (HasFinished k (Err Device)) (g.W.Files.device c.args.work.now) (g.W.Files.device c.keep.new.work) true) c.going.view_is
    (kept_cut j r.outs r.places r.records v act _ (g.met.W.Files.sound c.args.work.now).owned lets _ _ c.in-Ok-Records.records c.look_through.result (c.in-Ok-Records.is ∙ ap Ok c.in-Ok-Records.field-0-is) c.look_through.ensures.looked c.in-Err-keep.ensures)

pub returns-in-Ok-Records-clause-memory : goal.returns-in-Ok-Records-clause-memory
returns-in-Ok-Records-clause-memory g c = has_folders c.args.going.recipe c.requires.folders

pub returns-in-Ok-lose-clause-acted : goal.returns-in-Ok-lose-clause-acted
returns-in-Ok-lose-clause-acted g c =
    let act = g.W.Files.act in
    let r = c.going.inside.ready in
    let v = c.going.invariant in
    let j = underway r.recipe r.logs r.stamps r.made c.going.inside.number in
    let lets = lets_as (g.W.Files.device c.args.work.now) j c.args.going c.going.view_is c.requires.room in
    subst (λ k. HasActed act (HasFinished k (Err c.fault_of.result)) (g.W.Files.device c.args.work.now) (g.W.Files.device c.lose.new.work) (close_failed (Err c.fault_of.result))) c.going.view_is
    (all_lost j r.outs r.places r.records v act _ (g.met.W.Files.sound c.args.work.now).owned lets _ _ c.in-Ok-Wrongly.at c.in-Ok-Wrongly.wrong c.path_of.result c.fault_of.result c.look_through.result (c.in-Ok-Wrongly.is ∙ ap Ok c.in-Ok-Wrongly.field-0-is)
    c.path_of.ensures c.fault_of.ensures.value c.look_through.ensures.looked c.in-Ok-lose.ensures)

pub returns-in-Ok-lose-clause-memory : goal.returns-in-Ok-lose-clause-memory
returns-in-Ok-lose-clause-memory g c = has_folders c.args.going.recipe c.requires.folders

pub returns-in-Ok-Wrongly-clause-acted : goal.returns-in-Ok-Wrongly-clause-acted
returns-in-Ok-Wrongly-clause-acted g c =
    let act = g.W.Files.act in
    let r = c.going.inside.ready in
    let v = c.going.invariant in
    let j = underway r.recipe r.logs r.stamps r.made c.going.inside.number in
    let lets = lets_as (g.W.Files.device c.args.work.now) j c.args.going c.going.view_is c.requires.room in
    subst (λ k. HasActed act (HasFinished k (Err Device)) (g.W.Files.device c.args.work.now) (g.W.Files.device c.lose.new.work) true) c.going.view_is
    (lost_cut j r.outs r.places r.records v act _ (g.met.W.Files.sound c.args.work.now).owned lets _ _ c.in-Ok-Wrongly.at c.in-Ok-Wrongly.wrong c.look_through.result (c.in-Ok-Wrongly.is ∙ ap Ok c.in-Ok-Wrongly.field-0-is) c.look_through.ensures.looked c.in-Err-lose.ensures)

pub returns-in-Ok-Wrongly-clause-memory : goal.returns-in-Ok-Wrongly-clause-memory
returns-in-Ok-Wrongly-clause-memory g c = has_folders c.args.going.recipe c.requires.folders

pub returns-clause-acted : goal.returns-clause-acted
returns-clause-acted g c =
    let act = g.W.Files.act in
    let r = c.going.inside.ready in
    let v = c.going.invariant in
    let j = underway r.recipe r.logs r.stamps r.made c.going.inside.number in
    let lets = lets_as (g.W.Files.device c.args.work.now) j c.args.going c.going.view_is c.requires.room in
    subst (λ k. HasActed act (HasFinished k (Err c.fault_in.result)) (g.W.Files.device c.args.work.now) (g.W.Files.device c.look_through.new.work) (close_failed (Err c.fault_in.result))) c.going.view_is
    (looks_failed j r.outs r.places r.records v act _ (g.met.W.Files.sound c.args.work.now).owned lets _ c.in-Err.fault c.fault_in.result c.look_through.result c.in-Err.is c.fault_in.ensures c.look_through.ensures.looked)

pub returns-clause-memory : goal.returns-clause-memory
returns-clause-memory g c = has_folders c.args.going.recipe c.requires.folders
