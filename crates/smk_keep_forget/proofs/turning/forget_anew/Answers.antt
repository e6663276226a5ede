use Rattle.std.proofs.Common.{◌≡◌, true, subst, ◌∙◌}
use Rattle.smk_record.specs.Records.{are_rising}
use Rattle.smk_store.proofs.Idle.{none_owned}
use Rattle.smk_keep_forget.proofs.Loads.{loaded_now, loaded_quietly, never_stamp, not_loaded}
use Rattle.smk_keep_forget.proofs.Turns.{acted_anew, acted_unloaded}
use Rattle.smk_keep_forget.proofs.turning.forget_anew.Goals as goal

pub returns-in-Ok : goal.returns-in-Ok
returns-in-Ok g c =
    let sound = g.met.W.Files.sound c.args.work.now in
    let act = g.W.Files.act in
    let old = g.W.Files.device c.args.work.now in
    let mid = g.W.Files.device c.load.new.work in
    let ks = c.in-Ok.loaded in
    acted_anew act old mid _ c.args.store.now ks c.args.p.now c.forget.result (loaded_quietly act old mid c.load.result ks c.in-Ok.is c.load.ensures.looked)
    (λ w at. loaded_now old c.load.result ks c.in-Ok.is c.load.ensures.told w at (none_owned w (sound.owned w at) (sound.same_numbers w at ∙ c.requires.none_runs)))
    c.forget.ensures.acted c.forget.ensures.known (subst (λ ps. are_rising ps ≡ true) c.paths.ensures.value c.paths.ensures.rising)

pub returns-in-Err : goal.returns-in-Err
returns-in-Err g c =
    let act = g.W.Files.act in
    let old = g.W.Files.device c.args.work.now in
    let new = g.W.Files.device c.load.new.work in
    let fault = c.in-Err.fault in
    acted_unloaded act old new c.args.store.now c.args.store.now c.args.p.now fault (never_stamp c.load.result fault c.in-Err.is c.load.ensures.no_stamp)
    (not_loaded act old new c.load.result fault c.in-Err.is c.load.ensures.looked)
