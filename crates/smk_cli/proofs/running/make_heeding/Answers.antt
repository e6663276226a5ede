use Rattle.std.proofs.Common.{false, refl, subst, Ok}
use Rattle.smk_world.specs.Devices.{HasActed}
use Rattle.smk_keep_lock.specs.Locking.{HasTaken}
use Rattle.smk_report.specs.declared.fault.Fault.TheVariants as fault
use Rattle.smk_cli_calls.specs.Locking.{Stood, Taken, Unmade, Untaken}
use Rattle.smk_cli.proofs.Locking.{acted_last, acted_on, lock_stands, once_locked, unmade_end}
use Rattle.smk_cli.proofs.running.make_heeding.Goals as goal

pub returns-in_default-clause-ended : goal.returns-in_default-clause-ended
returns-in_default-clause-ended g c = unmade_end (g.W.Files.device c.args.work.now) (g.O.Sink.sunk c.args.out.now) c.requires.none_runs

pub returns-in_default-clause-heeded : goal.returns-in_default-clause-heeded
returns-in_default-clause-heeded g c = λ w at read reads. Unmade refl refl refl

pub returns-then-not-taken-clause-ended : goal.returns-then-not-taken-clause-ended
returns-then-not-taken-clause-ended g c =
    acted_last fault.Locked (g.W.Files.device c.args.work.now) (g.W.Files.device c.take.new.work)
    (g.O.Sink.sunk c.args.out.now) false c.in-Ok-take.ensures c.requires.none_runs refl refl

pub returns-then-not-taken-clause-heeded : goal.returns-then-not-taken-clause-heeded
returns-then-not-taken-clause-heeded g c = λ w at read reads.
    let old = g.W.Files.device c.args.work.now in
    let new = g.W.Files.device c.take.new.work in
    let tried = subst (λ b. HasActed g.W.Files.act (HasTaken (Ok b)) old new false) c.if-not-taken.true c.in-Ok-take.ensures in
    Stood refl (lock_stands w tried at) tried refl

pub returns-in-Ok-take-clause-ended : goal.returns-in-Ok-take-clause-ended
returns-in-Ok-take-clause-ended g c =
    acted_on c.make_locked.result (g.W.Files.device c.args.work.now) (g.W.Files.device c.take.new.work) (g.W.Files.device c.make_locked.new.work)
    (g.O.Sink.sunk c.args.out.now)
    (g.O.Sink.sunk c.make_locked.new.out) c.in-Ok-take.ensures c.make_locked.ensures.ended

pub returns-in-Ok-take-clause-heeded : goal.returns-in-Ok-take-clause-heeded
returns-in-Ok-take-clause-heeded g c = λ w at read reads.
    let old = g.W.Files.device c.args.work.now in
    let new = g.W.Files.device c.take.new.work in
    let taken = subst (λ b. HasActed g.W.Files.act (HasTaken (Ok b)) old new false) c.if-not-taken.false c.in-Ok-take.ensures in
    let once = once_locked w taken at in
    Taken once.0 new once.2 once.1 taken (c.make_locked.ensures.went once.0 once.1 read reads)

pub returns-clause-ended : goal.returns-clause-ended
returns-clause-ended g c =
    acted_last fault.Device (g.W.Files.device c.args.work.now) (g.W.Files.device c.take.new.work)
    (g.O.Sink.sunk c.args.out.now) _ c.in-Err.ensures c.requires.none_runs refl refl

pub returns-clause-heeded : goal.returns-clause-heeded
returns-clause-heeded g c = λ w at read reads. Untaken c.in-Err.field-0 refl c.in-Err.ensures refl
