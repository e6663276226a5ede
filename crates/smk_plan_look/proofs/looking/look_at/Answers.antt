use Rattle.smk_world.proofs.Devices.{looked_on, looked_then, still}
use Rattle.smk_plan_look.proofs.Images.{seen_after, spared_after, summed_after}
use Rattle.smk_plan_look.proofs.looking.look_at.Goals as goal

pub returns-in_err-seen-clause-looked : goal.returns-in_err-seen-clause-looked
returns-in_err-seen-clause-looked g c = looked_on _ c.in_err-seen.was c.from_residual.ensures.1 c.seen_of.ensures.looked

pub returns-in_err-found-clause-looked : goal.returns-in_err-found-clause-looked
returns-in_err-found-clause-looked g c =
    looked_then c.in_ok-seen.ensures.looked (looked_on _ c.in_err-found.was c.from_residual-in_err-found.ensures.1 c.summed.ensures.looked)

pub returns-clause-looked : goal.returns-clause-looked
returns-clause-looked g c = looked_then c.in_ok-seen.ensures.looked c.in_ok-found.ensures.looked

pub returns-clause-told : goal.returns-clause-told
returns-clause-told g c = λ w at read.
    let u = still w c.in_ok-seen.ensures.looked at in
    seen_after read w u.0 ((g.met.W.Files.sound c.args.work.now).formed w at) ((g.met.W.Files.sound c.args.work.now).tree w at) u.2 _ u.1 _ c.args.jobs.now _ _ c.in_ok-found.ensures.put (c.in_ok-seen.ensures.told w at read)

pub returns-clause-summed : goal.returns-clause-summed
returns-clause-summed g c = λ w at read stored.
    let u = still w c.in_ok-seen.ensures.looked at in
    summed_after read w u.0 ((g.met.W.Files.sound c.args.work.now).formed w at) ((g.met.W.Files.sound c.args.work.now).tree w at) u.2 _ u.1 c.args.store.now c.args.jobs.now _ _ c.in_ok-found.ensures.put (c.in_ok-seen.ensures.told w at read) stored

pub returns-clause-spared : goal.returns-clause-spared
returns-clause-spared g c = spared_after _ c.args.store.now c.args.jobs.now _ _ c.in_ok-found.ensures.put
