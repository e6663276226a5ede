use Rattle.std.proofs.Common.{refl, sym, subst, ◌∙◌}
use Rattle.smk_world.specs.Calls.{Rose}
use Rattle.smk_cli_calls.specs.Ends.{EndsAs}
use Rattle.smk_cli_calls.specs.Locking.{LockGoes, LockStays}
use Rattle.smk_cli.proofs.Locking.{left_idle, none_numbered, released_end}
use Rattle.smk_cli.proofs.running.make_locked.Goals as goal

pub returns-then-has_risen-clause-went : goal.returns-then-has_risen-clause-went
returns-then-has_risen-clause-went g c = λ w at read reads.
    record {
      ran = c.make_targets-answer.result;
      left = g.W.Files.device c.make_targets-answer.new.work;
      went = c.make_targets-answer.ensures.went w at read reads;
      closed = LockStays
          (subst (λ n. Rose n (g.W.Files.device c.make_targets-answer.new.work).faults) c.faults-before.ensures
          (subst (λ n. Rose c.faults-before.result n) c.faults.ensures (c.has_risen.ensures.rose c.if-has_risen.true)))
          refl refl;
    }

pub release-requires : goal.release-requires
release-requires g c =
    record {
      none_runs = left_idle g.W.Files.act c.make_targets-answer.result (g.W.Files.device c.args.work.now) (g.W.Files.device c.make_targets-answer.new.work)
          (g.W.Files.device c.make_targets-answer.new.work) (g.O.Sink.sunk c.args.out.now)
          (g.O.Sink.sunk c.make_targets-answer.new.out) c.make_targets-answer.ensures.ended
          (λ rose.
          c.has_risen.ensures.stayed c.if-has_risen.false
          (subst (λ n. Rose n c.faults.result) (sym c.faults-before.ensures)
          (subst (λ n. Rose (g.W.Files.device c.args.work.now).faults n) (sym c.faults.ensures) rose)));
    }

pub returns-clause-ended : goal.returns-clause-ended
returns-clause-ended g c =
    let old = g.W.Files.device c.args.work.now in
    let left = g.W.Files.device c.make_targets-answer.new.work in
    let new = g.W.Files.device c.release.new.work in
    let p = g.O.Sink.sunk c.args.out.now in
    let q = g.O.Sink.sunk c.make_targets-answer.new.out in
    let never : ¬ (Rose old.faults left.faults) = λ rose.
    c.has_risen.ensures.stayed c.if-has_risen.false
    (subst (λ n. Rose n c.faults.result) (sym c.faults-before.ensures) (subst (λ n. Rose old.faults n) (sym c.faults.ensures) rose)) in
    subst (λ r. EndsAs r old new p q) (sym c.release.ensures.2)
    (released_end g.W.Files.act c.make_targets-answer.result old left new p q c.make_targets-answer.ensures.ended never c.release.ensures.0 c.release.ensures.1)

pub returns-clause-went : goal.returns-clause-went
returns-clause-went g c = λ w at read reads.
    let old = g.W.Files.device c.args.work.now in
    let left = g.W.Files.device c.make_targets-answer.new.work in
    let new = g.W.Files.device c.release.new.work in
    let p = g.O.Sink.sunk c.args.out.now in
    let q = g.O.Sink.sunk c.make_targets-answer.new.out in
    let never : ¬ (Rose old.faults left.faults) = λ rose.
    c.has_risen.ensures.stayed c.if-has_risen.false
    (subst (λ n. Rose n c.faults.result) (sym c.faults-before.ensures) (subst (λ n. Rose old.faults n) (sym c.faults.ensures) rose)) in
    let idle = left_idle g.W.Files.act c.make_targets-answer.result old left new p q c.make_targets-answer.ensures.ended never in
    record {
      ran = c.make_targets-answer.result;
      left = left;
      went = c.make_targets-answer.ensures.went w at read reads;
      closed = LockGoes c.release.ensures.0 never
          (λ v told. none_numbered v.children
          ((g.met.W.Files.sound c.make_targets-answer.new.work).same_numbers v told ∙ idle)) c.release.ensures.1 c.release.ensures.2;
    }
