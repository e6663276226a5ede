use Rattle.std.proofs.Common.{subst}
use Rattle.std.specs.Prelude.{Contains, IfOk}
use Rattle.smk_drive_step.proofs.Begun.{not_read_as, still_lets, taken_up}
use Rattle.smk_drive_step.proofs.beginning.begin_job.Goals as goal

pub begin-requires-clause-valid : goal.begin-requires-clause-valid
begin-requires-clause-valid g c = c.in-Ok.ensures.writable.valid

pub begin-requires-clause-room : goal.begin-requires-clause-room
begin-requires-clause-room g c = still_lets c.args.job.now c.in-Ok.ensures.looked c.requires.room

pub returns-in-Ok-clause-taken : goal.returns-in-Ok-clause-taken
returns-in-Ok-clause-taken g c =
    taken_up g.W.Files.act c.args.job.now c.args.known.now c.args.made c.args.command.now c.in-Ok.stamps c.begin.result _ _ _
    c.in-Ok.ensures.looked c.in-Ok.ensures.told c.in-Ok.ensures.writable c.begin.ensures.answer c.begin.ensures.begun

pub returns-in-Ok-clause-fresh : goal.returns-in-Ok-clause-fresh
returns-in-Ok-clause-fresh g c =
    subst (λ ns. IfOk c.begin.result (λ going. ¬ (Contains ns going.number))) c.in-Ok.ensures.looked.acted.running c.begin.ensures.fresh

pub returns-in-Err-clause-taken : goal.returns-in-Err-clause-taken
returns-in-Err-clause-taken g c =
    not_read_as g.W.Files.act c.args.job.now c.args.known.now c.args.made c.args.command.now c.in-Err.why _ _ _ c.unread.ensures c.in-Err.ensures.looked
