use Rattle.std.proofs.Common.{◌<◌, Err, subst, sym, ap, ◌∙◌}
use Rattle.std.proofs.lemmas.Result.{IfOk-weaker}
use Rattle.smk_world.specs.Calls.{device_failed}
use Rattle.smk_world.proofs.Devices.{looked_as}
use Rattle.smk_choose.specs.declared.sources.Sources as kept
use Rattle.smk_choose.specs.Told.{told_by}
use Rattle.smk_store.specs.Images.{seen}
use Rattle.smk_chain.specs.Derive.{sources_of}
use Rattle.smk_chain_sight.specs.Sight.{Suffices}
use Rattle.smk_chain_sight.proofs.Agree.{suffices}
use Rattle.smk_chain_sight.proofs.Eyes.{if_err, same_count, never_many, never_device}
use Rattle.smk_chain_sight.proofs.Views.{viewed_of}
use Rattle.smk_chain_sight.proofs.looking.sight.Goals as goal

pub returns-in-Ok-clause-looked : goal.returns-in-Ok-clause-looked
returns-in-Ok-clause-looked g c = looked_as (sym c.sources_in.ensures.quiet) c.in-Ok.ensures.looked

pub returns-in-Ok-clause-told : goal.returns-in-Ok-clause-told
returns-in-Ok-clause-told g c =
    IfOk-weaker c.sources_in.result _ _
    (λ sources h w at owned read stored.
    let t = c.in-Ok.ensures.told w at (seen read w) (viewed_of read w c.args.store.now owned ((g.met.W.Files.sound c.args.work.now).formed w at) ((g.met.W.Files.sound c.args.work.now).tree w at) stored) in
    subst (λ (s : kept.Sources). Suffices c.args.flow.now (sources_of (seen read w)) c.args.lists.now c.args.targets.now (told_by s)) (sym h.0)
    (suffices c.args.flow.now (sources_of (seen read w)) (told_by c.in-Ok.view.sources) c.args.lists.now c.args.targets.now (t.small h.1).0 (t.small h.1).1))
    c.sources_in.ensures.ok

pub returns-in-Ok-clause-too_many : goal.returns-in-Ok-clause-too_many
returns-in-Ok-clause-too_many g c =
    if_err c.sources_in.result _ _
    (λ fault h count e. (
      subst (λ n. 100000 < n) (same_count c.in-Ok.view.count count (sym h.0 ∙ e)) h.1,
      λ w at owned read stored.
          let t = c.in-Ok.ensures.told w at (seen read w) (viewed_of read w c.args.store.now owned ((g.met.W.Files.sound c.args.work.now).formed w at) ((g.met.W.Files.sound c.args.work.now).tree w at) stored) in
          t.large h.1,
    ))
    c.sources_in.ensures.fault

pub returns-in-Err-Failed-clause-looked : goal.returns-in-Err-Failed-clause-looked
returns-in-Err-Failed-clause-looked g c = looked_as (ap device_failed (c.in-Err-Failed.is ∙ ap Err c.in-Err-Failed.field-0-is)) c.look_around.ensures.looked

pub returns-in-Err-OutOfMemory-clause-looked : goal.returns-in-Err-OutOfMemory-clause-looked
returns-in-Err-OutOfMemory-clause-looked g c = looked_as (ap device_failed (c.in-Err-OutOfMemory.is ∙ ap Err c.in-Err-OutOfMemory.field-0-is)) c.look_around.ensures.looked

pub returns-in-Err-Failed-clause-too_many : goal.returns-in-Err-Failed-clause-too_many
returns-in-Err-Failed-clause-too_many g c = λ count e. absurd (never_device count e)

pub returns-in-Err-OutOfMemory-clause-too_many : goal.returns-in-Err-OutOfMemory-clause-too_many
returns-in-Err-OutOfMemory-clause-too_many g c = λ count e. absurd (never_many count e)
