use Rattle.std.proofs.Common.{refl, sym, ◌∙◌}
use Rattle.smk_world.proofs.Devices.{acted_as}
use Rattle.smk_keep_forget.specs.Steps.{HasTurned, TurnsBy}
use Rattle.smk_keep_forget.specs.Turns.{IsStoreBut}
use Rattle.smk_keep_forget.proofs.Turns.{acted_again, acted_stale}
use Rattle.smk_keep_forget.proofs.turning.forget_next.Goals as goal

pub returns-then-has : goal.returns-then-has
returns-then-has g c =
    let done = c.args.done.now in
    let p = c.args.p.now in
    let old = c.args.store.now in
    let new = c.forget_anew.new.store in
    let r = c.forget_anew.result in
    acted_as g.W.Files.act (TurnsBy old p new r) (λ w es. IsStoreBut done w old → HasTurned done p new r w es) _ _ _ _ refl (λ w es turns but. turns done but) c.forget_anew.ensures

pub returns-then-is_stamp : goal.returns-then-is_stamp
returns-then-is_stamp g c =
    acted_again g.W.Files.act _ _ _ c.args.done.now c.args.store.now c.forget_anew-then-is_stamp.new.store c.args.p.now c.forget-answer.result c.forget_anew-then-is_stamp.result (sym c.is_stamp.ensures ∙ c.if-is_stamp.true)
    c.forget-answer.ensures.acted c.forget_anew-then-is_stamp.ensures

pub returns : goal.returns
returns g c =
    acted_stale g.W.Files.act _ _ c.args.done.now c.args.store.now c.args.p.now c.forget-answer.result (sym c.has.ensures ∙ c.if-has.false) (sym c.is_stamp.ensures ∙ c.if-is_stamp.false)
    c.forget-answer.ensures.acted c.forget-answer.ensures.known
