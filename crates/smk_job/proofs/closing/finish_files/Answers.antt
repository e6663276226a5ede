use Rattle.std.proofs.Common.{Ok, Err, true, false, sym, ap, ◌∙◌, subst}
use Rattle.smk_world.specs.Devices.{HasActed}
use Rattle.smk_job.specs.declared.fault.CloseFault.TheVariants.{Device}
use Rattle.smk_job.specs.Jobs.{underway, IsReady}
use Rattle.smk_job.specs.Sights.{HasFinished, close_failed, path_at}
use Rattle.smk_job.proofs.Rooms.{lets_as, close_free}
use Rattle.smk_job.proofs.Finishing.{at_outputs, finished_well, finished_wrong, finished_badly}
use Rattle.smk_job.proofs.closing.finish_files.Goals as goal

pub settle_files-requires-clause-at : goal.settle_files-requires-clause-at
settle_files-requires-clause-at g c =
    let r = c.going.inside.ready in
    let v = c.going.invariant in
    at_outputs (underway r.recipe r.logs r.stamps r.made c.going.inside.number) c.as_slice.result.now r.places r.records
    (record { outputs = c.as_slice.ensures ∙ v.outputs; at_places = v.at_places; bytes = v.bytes; valid = v.valid })

pub settle_files-requires-clause-unused : goal.settle_files-requires-clause-unused
settle_files-requires-clause-unused g c =
    let r = c.going.inside.ready in
    close_free (g.W.Files.device c.args.work.now) r.recipe r.logs r.places c.going.invariant.at_places (lets_as (g.W.Files.device c.args.work.now) _ _ c.going.view_is c.requires.room)

pub returns-in-Ok-None-clause-acted : goal.returns-in-Ok-None-clause-acted
returns-in-Ok-None-clause-acted g c =
    let act = g.W.Files.act in
    let r = c.going.inside.ready in
    let v = c.going.invariant in
    let outs = c.as_slice.result.now in
    let j = underway r.recipe r.logs r.stamps r.made c.going.inside.number in
    let ready : IsReady j.recipe j.logs j.stamps j.made outs r.places r.records = record { outputs = c.as_slice.ensures ∙ v.outputs; at_places = v.at_places; bytes = v.bytes; valid = v.valid } in
    let lets = lets_as (g.W.Files.device c.args.work.now) j c.args.going c.going.view_is c.requires.room in
    subst (λ k. HasActed act (HasFinished k (Ok tt)) (g.W.Files.device c.args.work.now) (g.W.Files.device c.settle_files.new.work) false) c.going.view_is
    (finished_well j outs r.places r.records ready act _ _ (g.met.W.Files.sound c.args.work.now).owned lets c.settle_files.result (c.in-Ok-None.is ∙ ap Ok c.in-Ok-None.field-0-is) c.settle_files.ensures.acted)

pub returns-in-Ok-Some-clause-acted : goal.returns-in-Ok-Some-clause-acted
returns-in-Ok-Some-clause-acted g c =
    let act = g.W.Files.act in
    let r = c.going.inside.ready in
    let v = c.going.invariant in
    let outs = c.as_slice.result.now in
    let j = underway r.recipe r.logs r.stamps r.made c.going.inside.number in
    let ready : IsReady j.recipe j.logs j.stamps j.made outs r.places r.records = record { outputs = c.as_slice.ensures ∙ v.outputs; at_places = v.at_places; bytes = v.bytes; valid = v.valid } in
    let lets = lets_as (g.W.Files.device c.args.work.now) j c.args.going c.going.view_is c.requires.room in
    subst (λ k. HasActed act (HasFinished k (Err c.fault_of.result)) (g.W.Files.device c.args.work.now) (g.W.Files.device c.settle_files.new.work) (close_failed (Err c.fault_of.result))) c.going.view_is
    (finished_wrong j outs r.places r.records ready act _ _ (g.met.W.Files.sound c.args.work.now).owned lets c.settle_files.result c.in-Ok-Some.at c.in-Ok-Some.wrong c.path_of.result c.fault_of.result
    (c.in-Ok-Some.is ∙ ap Ok c.in-Ok-Some.field-0-is)
    (c.path_of.ensures ∙ ap (λ os. path_at os c.in-Ok-Some.at) (sym c.as_slice.ensures)) c.fault_of.ensures.value c.settle_files.ensures.acted)

pub returns-in-Err-clause-acted : goal.returns-in-Err-clause-acted
returns-in-Err-clause-acted g c =
    let act = g.W.Files.act in
    let r = c.going.inside.ready in
    let v = c.going.invariant in
    let outs = c.as_slice.result.now in
    let j = underway r.recipe r.logs r.stamps r.made c.going.inside.number in
    let ready : IsReady j.recipe j.logs j.stamps j.made outs r.places r.records = record { outputs = c.as_slice.ensures ∙ v.outputs; at_places = v.at_places; bytes = v.bytes; valid = v.valid } in
    let lets = lets_as (g.W.Files.device c.args.work.now) j c.args.going c.going.view_is c.requires.room in
    subst (λ k. HasActed act (HasFinished k (Err Device)) (g.W.Files.device c.args.work.now) (g.W.Files.device c.settle_files.new.work) true) c.going.view_is
    (finished_badly j outs r.places r.records ready act _ _ (g.met.W.Files.sound c.args.work.now).owned lets c.settle_files.result c.in-Err.field-0 c.in-Err.is c.settle_files.ensures.acted)
