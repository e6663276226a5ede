use Rattle.std.proofs.Common.{ap, subst, Bool}
use Rattle.std.specs.Prelude.{is_err}
use Rattle.smk_world.specs.Devices.{HasCarried}
use Rattle.smk_drive_begin.specs.Rounds.{HasFailed, IsAsWas, settle_requests}
use Rattle.smk_drive_begin.proofs.sweeping.firm.Goals as goal

pub returns-in-Ok : goal.returns-in-Ok
returns-in-Ok g c =
    let old = g.W.Files.device c.args.work.now in
    let new = g.W.Files.device c.settle_all.new.work in
    IsAsWas old new (subst (λ (f : Bool). HasCarried g.W.Files.act (settle_requests c.args.removed.now) old new f) (ap is_err c.in-Ok.is) c.settle_all.ensures)

pub returns-in-Err : goal.returns-in-Err
returns-in-Err g c =
    let old = g.W.Files.device c.args.work.now in
    let new = g.W.Files.device c.settle_all.new.work in
    HasFailed old new (subst (λ (f : Bool). HasCarried g.W.Files.act (settle_requests c.args.removed.now) old new f) (ap is_err c.in-Err.is) c.settle_all.ensures)
