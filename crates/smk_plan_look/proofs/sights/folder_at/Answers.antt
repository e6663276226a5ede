use Rattle.smk_world.proofs.Devices.{looked_on, looked_then, still}
use Rattle.smk_plan_look.proofs.Sighting.{folder_seen}
use Rattle.smk_plan_look.proofs.sights.folder_at.Goals as goal

pub returns-in_err-members-clause-looked : goal.returns-in_err-members-clause-looked
returns-in_err-members-clause-looked g c = looked_on _ c.in_err-members.was c.from_residual.ensures.1 c.members_at.ensures.looked

pub returns-in_err-guarded-clause-looked : goal.returns-in_err-guarded-clause-looked
returns-in_err-guarded-clause-looked g c =
    looked_then c.in_ok-members.ensures.looked (looked_on _ c.in_err-guarded.was c.from_residual-in_err-guarded.ensures.1 c.has_guard.ensures.looked)

pub returns-clause-looked : goal.returns-clause-looked
returns-clause-looked g c = looked_then c.in_ok-members.ensures.looked c.in_ok-guarded.ensures.looked

pub returns-clause-told : goal.returns-clause-told
returns-clause-told g c = λ w at free path reads stat.
    let u = still w c.in_ok-members.ensures.looked at in
    folder_seen w u.0 u.2 c.args.path c.args.place.now c.args.stat c.in_ok-members.members c.in_ok-guarded.guarded free c.requires.at path reads stat
    (c.in_ok-members.ensures.told w at free reads) (c.in_ok-guarded.ensures.told u.0 u.1)
