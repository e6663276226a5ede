use Rattle.std.proofs.Common.{subst, sym, ap, ◌∙◌}
use Rattle.smk_report.specs.declared.fault.Fault.{Fault}
use Rattle.smk_report.specs.declared.fault.Fault.TheVariants as fault
use Rattle.smk_laws_turns.specs.Hubs.{Parts}
use Rattle.smk_laws_turns.specs.Turning.{faulted}
use Rattle.smk_drive_hub.specs.Keeping.{parts_of}
use Rattle.smk_laws_closes.specs.Turns.{HasFollowed}
use Rattle.smk_laws_closes.proofs.Followed.{closed_so, not_closed, not_found}
use Rattle.smk_laws_closes.proofs.Noting.{no_job_there, some_job}
use Rattle.smk_drive_close.proofs.Found.{found_none, found_some}
use Rattle.smk_drive_close.proofs.Halting.{is_faulted}
use Rattle.smk_drive_close.proofs.closing.close.Goals as goal

pub returns-then-is_none-clause-followed : goal.returns-then-is_none-clause-followed
returns-then-is_none-clause-followed g c =
    let act = g.W.Files.act in
    let h = parts_of c.args.hub.now in
    subst
    (λ (k : Parts).
    HasFollowed act c.args.ground.flow.now c.args.ground.settings.now h k c.args.child c.args.status (g.W.Files.device c.args.work.now) (g.W.Files.device c.args.work.now)
    (g.O.Sink.sunk c.args.out.now) (g.O.Sink.sunk c.args.out.now))
    (sym c.set.ensures)
    (not_found act c.args.ground.flow.now c.args.ground.settings.now h c.args.child c.args.status c.requires.live (g.W.Files.device c.args.work.now)
    (g.O.Sink.sunk c.args.out.now) (no_job_there (λ j. j.now) c.job_at.result _ c.job_at.ensures (found_none c.job_at.result c.is_none.result c.is_none.ensures c.if-is_none.true)))

pub close_job-requires : goal.close_job-requires
close_job-requires g c = record { room = c.requires.room }

pub returns-in-Err-clause-followed : goal.returns-in-Err-clause-followed
returns-in-Err-clause-followed g c =
    let act = g.W.Files.act in
    let h = parts_of c.args.hub.now in
    subst
    (λ (k : Parts).
    HasFollowed act c.args.ground.flow.now c.args.ground.settings.now h k c.args.child c.args.status (g.W.Files.device c.args.work.now)
    (g.W.Files.device c.close_job.new.work) (g.O.Sink.sunk c.args.out.now) (g.O.Sink.sunk c.args.out.now))
    (sym (c.set-in-Err.ensures ∙ ap (λ (f : Fault). faulted f h) c.work_fault.ensures))
    (not_closed act c.args.ground.flow.now c.args.ground.settings.now h c.args.child c.args.status c.requires.live c.in-Err.why _ _ _ c.in-Err.ensures)

pub returns-clause-followed : goal.returns-clause-followed
returns-clause-followed g c =
    closed_so g.W.Files.act c.args.ground.flow.now c.args.ground.settings.now (parts_of c.args.hub.now) (parts_of c.end.new.hub) c.args.child c.args.status c.in-Ok.ending _ _ _
    _ _ c.in-Ok.ensures c.end.ensures.ended

pub end-requires : goal.end-requires
end-requires g c =
    record {
      live = c.requires.live;
      known = some_job (λ j. j.now) c.job_at.result _ c.job_at.ensures (found_some c.job_at.result c.is_none.result c.is_none.ensures c.if-is_none.false);
      done = c.requires.done;
      failed = c.requires.failed;
    }

pub returns-then-is_none-clause-commands : goal.returns-then-is_none-clause-commands
returns-then-is_none-clause-commands g c = λ none. is_faulted fault.OutOfMemory (parts_of c.args.hub.now) (parts_of c.set.new.self) c.set.ensures none

pub returns-in-Err-clause-commands : goal.returns-in-Err-clause-commands
returns-in-Err-clause-commands g c = λ none. is_faulted c.work_fault.result (parts_of c.args.hub.now) (parts_of c.set-in-Err.new.self) c.set-in-Err.ensures none

pub returns-clause-commands : goal.returns-clause-commands
returns-clause-commands g c = c.end.ensures.commands
