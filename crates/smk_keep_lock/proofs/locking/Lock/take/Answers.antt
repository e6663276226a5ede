use Rattle.std.proofs.Common.{refl, ◌∙◌}
use Rattle.smk_store.specs.Steps.{HasLocked}
use Rattle.smk_store.proofs.Idle.{none_owned}
use Rattle.smk_keep_lock.specs.Locking.{HasTaken}
use Rattle.smk_keep_lock.proofs.Acting.{acted_more}
use Rattle.smk_keep_lock.proofs.Taking.{took}
use Rattle.smk_keep_lock.proofs.locking.Lock.take.Goals as goal

pub returns : goal.returns
returns g c =
    let sound = g.met.W.Files.sound c.args.work.now in
    acted_more g.W.Files.act (HasLocked c.lock.result) (HasTaken c.lock.result) _ _ _ _ refl
    (λ w at es follows h.
    took g.W.Files.act w (none_owned w (sound.owned w at) (sound.same_numbers w at ∙ c.requires.none_runs)) (sound.tree w at) c.lock.result es follows h)
    c.lock.ensures
