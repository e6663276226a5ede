use Rattle.std.proofs.Common.{◌∙◌}
use Rattle.smk_store.proofs.Idle.{none_owned}
use Rattle.smk_keep_forget.proofs.Around.{told_nothing}
use Rattle.smk_keep_forget.proofs.Going.{gone_loaded, gone_unloaded}
use Rattle.smk_keep_forget.proofs.Loads.{loaded_now, loaded_quietly, never_stamp, not_loaded}
use Rattle.smk_keep_forget.proofs.Telling.{told_loaded}
use Rattle.smk_keep_forget.proofs.cleaning.forget_all.Goals as goal

pub forget_each-requires : goal.forget_each-requires
forget_each-requires g c = record { none_runs = c.load.ensures.looked.acted.running ∙ c.requires.none_runs }

pub returns-in-Ok-clause-acted : goal.returns-in-Ok-clause-acted
returns-in-Ok-clause-acted g c =
    let sound = g.met.W.Files.sound c.args.work.now in
    let act = g.W.Files.act in
    let old = g.W.Files.device c.args.work.now in
    let mid = g.W.Files.device c.load.new.work in
    let ks = c.in-Ok.store in
    gone_loaded act old mid _ ks c.args.paths.now c.forget_each.result (loaded_quietly act old mid c.load.result ks c.in-Ok.is c.load.ensures.looked)
    (λ w at. loaded_now old c.load.result ks c.in-Ok.is c.load.ensures.told w at (none_owned w (sound.owned w at) (sound.same_numbers w at ∙ c.requires.none_runs)))
    c.forget_each.ensures.acted

pub returns-in-Ok-clause-told : goal.returns-in-Ok-clause-told
returns-in-Ok-clause-told g c =
    let sound = g.met.W.Files.sound c.args.work.now in
    let act = g.W.Files.act in
    let old = g.W.Files.device c.args.work.now in
    let mid = g.W.Files.device c.load.new.work in
    let ks = c.in-Ok.store in
    told_loaded act old mid ks c.args.paths.now c.forget_each.result (g.O.Sink.sunk c.args.out.now) (g.O.Sink.sunk c.forget_each.new.out) (loaded_quietly act old mid c.load.result ks c.in-Ok.is c.load.ensures.looked)
    (λ w at. loaded_now old c.load.result ks c.in-Ok.is c.load.ensures.told w at (none_owned w (sound.owned w at) (sound.same_numbers w at ∙ c.requires.none_runs)))
    c.forget_each.ensures.told

pub returns-in-Err-clause-acted : goal.returns-in-Err-clause-acted
returns-in-Err-clause-acted g c =
    let act = g.W.Files.act in
    let old = g.W.Files.device c.args.work.now in
    let new = g.W.Files.device c.load.new.work in
    let fault = c.in-Err.fault in
    gone_unloaded act old new c.args.paths.now fault c.from.result c.from.ensures (never_stamp c.load.result fault c.in-Err.is c.load.ensures.no_stamp)
    (not_loaded act old new c.load.result fault c.in-Err.is c.load.ensures.looked)

pub returns-in-Err-clause-told : goal.returns-in-Err-clause-told
returns-in-Err-clause-told g c = told_nothing c.from.result (g.W.Files.device c.args.work.now) (g.O.Sink.sunk c.args.out.now) c.args.paths.now
