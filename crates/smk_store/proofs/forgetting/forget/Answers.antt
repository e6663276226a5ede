use Rattle.std.proofs.Common.{Some, None, Ok, Err, refl, ap, ◌∙◌}
use Rattle.smk_world.specs.Calls.{device_failed}
use Rattle.smk_world.proofs.Devices.{acted_nothing, looked_as, looked_ok}
use Rattle.smk_store.specs.declared.fault.StoreFault.TheVariants.{OutOfMemory}
use Rattle.smk_store.specs.Forgetting.{HasForgotten}
use Rattle.smk_store.proofs.Idle.{none_owned}
use Rattle.smk_store.proofs.Meaning.{unseen, first_one}
use Rattle.smk_store.proofs.Forgets.{if_told, as_requests, look_failed, none_left, seen_before, none_known, all_done, one_failed}
use Rattle.smk_store.proofs.forgetting.forget.Goals as goal

pub returns-in_default-clause-acted : goal.returns-in_default-clause-acted
returns-in_default-clause-acted g c = acted_nothing g.W.Files.act (HasForgotten c.args.store.now c.args.p.now (Err OutOfMemory)) _ (λ w. refl)

pub returns-in-Ok-Some-clause-acted : goal.returns-in-Ok-Some-clause-acted
returns-in-Ok-Some-clause-acted g c =
    seen_before g.W.Files.act c.args.store.now c.args.p.now _ _ (looked_ok c.in-Ok-Some.is c.seen_under.ensures.looked) c.in-Ok-Some.seen
    (λ w at.
    first_one c.args.store.now w c.args.p.now c.in-Ok-Some.seen
    (if_told _ _ (Some c.in-Ok-Some.seen) (c.in-Ok-Some.is ∙ ap Ok c.in-Ok-Some.field-0-is) c.seen_under.ensures.told w at
    (λ q inside. none_owned w ((g.met.W.Files.sound c.args.work.now).owned w at) ((g.met.W.Files.sound c.args.work.now).same_numbers w at ∙ c.requires.none_runs) q)))

pub returns-in-Err-Failed-clause-acted : goal.returns-in-Err-Failed-clause-acted
returns-in-Err-Failed-clause-acted g c = look_failed g.W.Files.act c.args.store.now c.args.p.now _ _ (looked_as (ap device_failed (c.in-Err-Failed.is ∙ ap Err c.in-Err-Failed.field-0-is)) c.seen_under.ensures.looked)

pub returns-in-Err-OutOfMemory-clause-acted : goal.returns-in-Err-OutOfMemory-clause-acted
returns-in-Err-OutOfMemory-clause-acted g c = none_left g.W.Files.act c.args.store.now c.args.p.now _ _ (looked_as (ap device_failed (c.in-Err-OutOfMemory.is ∙ ap Err c.in-Err-OutOfMemory.field-0-is)) c.seen_under.ensures.looked)

pub returns-then-is_none-clause-acted : goal.returns-then-is_none-clause-acted
returns-then-is_none-clause-acted g c =
    none_known g.W.Files.act c.args.store.now c.args.p.now _ _ (looked_ok c.in-Ok-None.is c.seen_under.ensures.looked)
    (λ w at.
    unseen c.args.store.now w c.args.p.now
    (if_told _ _ None (c.in-Ok-None.is ∙ ap Ok c.in-Ok-None.field-0-is) c.seen_under.ensures.told w at
    (λ q inside. none_owned w ((g.met.W.Files.sound c.args.work.now).owned w at) ((g.met.W.Files.sound c.args.work.now).same_numbers w at ∙ c.requires.none_runs) q)))

pub returns-in-Ok-clear_all-clause-acted : goal.returns-in-Ok-clear_all-clause-acted
returns-in-Ok-clear_all-clause-acted g c =
    let places = c.in-Ok.places in
    all_done g.W.Files.act c.args.store.now c.args.p.now _ _ (looked_ok c.in-Ok-None.is c.seen_under.ensures.looked) _ _
    (as_requests places.around places.records places.marks c.args.p.now c.in-Ok.ensures.0 c.in-Ok.ensures.1 c.in-Ok.ensures.2)
    (λ w at.
    unseen c.args.store.now w c.args.p.now
    (if_told _ _ None (c.in-Ok-None.is ∙ ap Ok c.in-Ok-None.field-0-is) c.seen_under.ensures.told w at
    (λ q inside. none_owned w ((g.met.W.Files.sound c.args.work.now).owned w at) ((g.met.W.Files.sound c.args.work.now).same_numbers w at ∙ c.requires.none_runs) q)))
    c.in-Ok-clear_all.ensures

pub returns-clause-acted : goal.returns-clause-acted
returns-clause-acted g c =
    let places = c.in-Ok.places in
    one_failed g.W.Files.act c.args.store.now c.args.p.now _ _ (looked_ok c.in-Ok-None.is c.seen_under.ensures.looked) _ _
    (as_requests places.around places.records places.marks c.args.p.now c.in-Ok.ensures.0 c.in-Ok.ensures.1 c.in-Ok.ensures.2)
    (λ w at.
    unseen c.args.store.now w c.args.p.now
    (if_told _ _ None (c.in-Ok-None.is ∙ ap Ok c.in-Ok-None.field-0-is) c.seen_under.ensures.told w at
    (λ q inside. none_owned w ((g.met.W.Files.sound c.args.work.now).owned w at) ((g.met.W.Files.sound c.args.work.now).same_numbers w at ∙ c.requires.none_runs) q)))
    c.in-Err.ensures
