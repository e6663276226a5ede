use Rattle.std.proofs.Common.{sym, ◌∙◌}
use Rattle.smk_world.proofs.Devices.{looked_then, looked_on, still}
use Rattle.smk_chain_sight.proofs.Eyes.{viewed_still}
use Rattle.smk_chain_sight.proofs.Stand.{holds_itself}
use Rattle.smk_chain_sight.proofs.seeing.standing_at.Goals as goal

pub returns-then-here-clause-told : goal.returns-then-here-clause-told
returns-then-here-clause-told g c = λ w at image v known.
    let a = c.in_ok-here.ensures.told w at image v known in
    let source = sym a.0.source ∙ c.if-here.true in
    ((sym source, sym (holds_itself w.nodes c.args.store.now image v c.args.path.now source)), a.1)

pub returns-in_err-holds-clause-looked : goal.returns-in_err-holds-clause-looked
returns-in_err-holds-clause-looked g c =
    looked_then c.in_ok-here.ensures.looked (looked_on _ c.in_err-holds.was c.from_residual-in_err-holds.ensures.1 c.has_around.ensures.looked)

pub returns-clause-looked : goal.returns-clause-looked
returns-clause-looked g c =
    looked_then c.in_ok-here.ensures.looked c.in_ok-holds.ensures.looked

pub returns-clause-told : goal.returns-clause-told
returns-clause-told g c = λ w at image v known.
    let a = c.in_ok-here.ensures.told w at image v known in
    let u = still w c.in_ok-here.ensures.looked at in
    let none = sym a.0.source ∙ c.if-here.false in
    let h = c.in_ok-holds.ensures.told u.0 u.1 image (viewed_still w.nodes u.0.nodes c.args.store.now image u.2 v) c.in_ok-here.ensures.text none a.0.none a.1 in
    ((sym none, h.0), h.1)
