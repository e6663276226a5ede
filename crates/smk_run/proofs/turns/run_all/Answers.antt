use Rattle.std.proofs.Common.{◌+◌, Ok, drop, refl, sym, ap, ◌∙◌, arith}
use Rattle.smk_store.proofs.Seeing.{dropped}
use Rattle.smk_run.specs.Stamps.{number_at}
use Rattle.smk_run.specs.Duties.{Due, due_from, serial_in}
use Rattle.smk_run.specs.Runs.{IsReady}
use Rattle.smk_run.proofs.Coming.{each_at, all_before, due_left, left_passed, next_due, left_taken}
use Rattle.smk_run.proofs.Running.{so_far_start, so_far_next, run_done, run_failed, run_stopped, run_serials, all_turns}
use Rattle.smk_run.proofs.turns.run_all.Goals as goal

pub loop-number-init : goal.loop-number-init
loop-number-init g c = record {
  so_far = so_far_start g.W.Files.act c.args.flow.now c.args.cores (due_from (serial_in c.args.serials.now) 0 c.args.duties.now c.args.jobs.now) (number_at c.args.made.now) _ _ c.requires.none_runs;
  next = refl;
  few = omega arith;
}

pub loop-number-preserved-in_default : goal.loop-number-preserved-in_default
loop-number-preserved-in_default g c =
    let i = c.loop-number.number in
    let jobs = c.args.jobs.now in
    let job = c.index-jobs-number.result in
    let v = c.loop-number.invariant in
    record {
      so_far = v.so_far;
      next = left_passed (serial_in c.args.serials.now) c.args.duties.now jobs c.loop-number.done i job v.next (sym c.due_at.ensures ∙ c.in_default.is) (dropped jobs i job c.loop-number-test.true c.index-jobs-number.is);
      few = omega (arith, v.few);
    }

pub returns-in_default-serial : goal.returns-in_default-serial
returns-in_default-serial g c =
    let i = c.loop-number.number in
    let duties = c.args.duties.now in
    let jobs = c.args.jobs.now in
    let job = c.index-jobs-number.result in
    let serial = serial_in c.args.serials.now in
    let dues = due_from serial 0 duties jobs in
    let rest = due_from serial (i + 1) (drop (i + 1) duties) (drop (i + 1) jobs) in
    let due : Due = record { job = job; serial = c.in-Some.serial } in
    let at = next_due serial duties jobs c.loop-number.done i job c.in-Some.serial c.loop-number.invariant.next (sym c.due_at.ensures ∙ c.in-Some.is) (dropped jobs i job c.loop-number-test.true c.index-jobs-number.is) in
    run_serials g.W.Files.act c.args.flow.now c.args.cores dues rest due (number_at c.args.made.now) c.loop-number.done _ _ _ _ at c.in_default-serial.is c.loop-number.invariant.so_far

pub turn-requires : goal.turn-requires
turn-requires g c =
    let i = c.loop-number.number in
    let duties = c.args.duties.now in
    let jobs = c.args.jobs.now in
    let job = c.index-jobs-number.result in
    let serial = serial_in c.args.serials.now in
    let dues = due_from serial 0 duties jobs in
    let rest = due_from serial (i + 1) (drop (i + 1) duties) (drop (i + 1) jobs) in
    let due : Due = record { job = job; serial = c.in-Some.serial } in
    let at = next_due serial duties jobs c.loop-number.done i job c.in-Some.serial c.loop-number.invariant.next (sym c.due_at.ensures ∙ c.in-Some.is) (dropped jobs i job c.loop-number-test.true c.index-jobs-number.is) in
    let ready : IsReady c.args.flow.now c.args.cores (number_at c.args.made.now) due
    = each_at (IsReady c.args.flow.now c.args.cores (number_at c.args.made.now)) dues rest c.loop-number.done due c.requires.ready at in
    let none = c.loop-number.invariant.so_far.ran.idle refl in
    let below = ready.below c.in-Some-serial.serial c.in-Some-serial.is in
    let positive = ready.positive c.in-Some-serial.serial c.in-Some-serial.is in
    (c.type_bounds.sync-Rt, (none, (below, (positive, (ready.makes, (ready.apart, (ready.wildcards, ready.good)))))))

pub returns-in-Ok-Some : goal.returns-in-Ok-Some
returns-in-Ok-Some g c =
    let i = c.loop-number.number in
    let duties = c.args.duties.now in
    let jobs = c.args.jobs.now in
    let job = c.index-jobs-number.result in
    let serial = serial_in c.args.serials.now in
    let dues = due_from serial 0 duties jobs in
    let rest = due_from serial (i + 1) (drop (i + 1) duties) (drop (i + 1) jobs) in
    let due : Due = record { job = job; serial = c.in-Some.serial } in
    let at = next_due serial duties jobs c.loop-number.done i job c.in-Some.serial c.loop-number.invariant.next (sym c.due_at.ensures ∙ c.in-Some.is) (dropped jobs i job c.loop-number-test.true c.index-jobs-number.is) in
    run_failed g.W.Files.act c.args.flow.now c.args.cores dues rest due (number_at c.args.made.now) c.loop-number.done c.in-Some-serial.serial
    c.turn.result c.in-Ok-Some.fault c.ended.result _ _ _ _ _ _ (record { is = at; serial_is = c.in-Some-serial.is })
    (c.in-Ok-Some.is ∙ ap Ok c.in-Ok-Some.field-0-is)
    (record { started_is = c.ended.ensures.started; done_is = c.ended.ensures.done; failed_is = c.ended.ensures.failed; first_is = c.ended.ensures.first })
    c.loop-number.invariant.so_far c.turn.ensures

pub returns-in-Err : goal.returns-in-Err
returns-in-Err g c =
    let i = c.loop-number.number in
    let duties = c.args.duties.now in
    let jobs = c.args.jobs.now in
    let job = c.index-jobs-number.result in
    let serial = serial_in c.args.serials.now in
    let dues = due_from serial 0 duties jobs in
    let rest = due_from serial (i + 1) (drop (i + 1) duties) (drop (i + 1) jobs) in
    let due : Due = record { job = job; serial = c.in-Some.serial } in
    let at = next_due serial duties jobs c.loop-number.done i job c.in-Some.serial c.loop-number.invariant.next (sym c.due_at.ensures ∙ c.in-Some.is) (dropped jobs i job c.loop-number-test.true c.index-jobs-number.is) in
    run_stopped g.W.Files.act c.args.flow.now c.args.cores dues rest due (number_at c.args.made.now) c.loop-number.done c.in-Some-serial.serial
    c.turn.result c.in-Err.fault _ _ _ _ _ _ (record { is = at; serial_is = c.in-Some-serial.is }) c.in-Err.is
    c.loop-number.invariant.so_far c.turn.ensures

pub loop-number-preserved : goal.loop-number-preserved
loop-number-preserved g c =
    let i = c.loop-number.number in
    let duties = c.args.duties.now in
    let jobs = c.args.jobs.now in
    let job = c.index-jobs-number.result in
    let serial = serial_in c.args.serials.now in
    let dues = due_from serial 0 duties jobs in
    let rest = due_from serial (i + 1) (drop (i + 1) duties) (drop (i + 1) jobs) in
    let due : Due = record { job = job; serial = c.in-Some.serial } in
    let at = next_due serial duties jobs c.loop-number.done i job c.in-Some.serial c.loop-number.invariant.next (sym c.due_at.ensures ∙ c.in-Some.is) (dropped jobs i job c.loop-number-test.true c.index-jobs-number.is) in
    record {
      so_far = so_far_next g.W.Files.act c.args.flow.now c.args.cores dues rest due (number_at c.args.made.now) c.loop-number.done c.in-Some-serial.serial
          c.turn.result _ _ _ _ _ _ (record { is = at; serial_is = c.in-Some-serial.is }) (c.in-Ok-None.is ∙ ap Ok c.in-Ok-None.field-0-is)
          c.loop-number.invariant.so_far c.turn.ensures;
      next = left_taken serial duties jobs c.loop-number.done i due at;
      few = omega (arith, c.loop-number.invariant.few);
    }

pub returns : goal.returns
returns g c =
    let duties = c.args.duties.now in
    let jobs = c.args.jobs.now in
    let serial = serial_in c.args.serials.now in
    let dues = due_from serial 0 duties jobs in
    let v = c.loop-number.invariant in
    let all = all_turns g.W.Files.act c.args.flow.now c.args.cores dues (number_at c.args.made.now) c.loop-number.done _ _ _ _
    (all_before dues c.loop-number.done (v.next ∙ due_left serial c.loop-number.number duties jobs (omega (arith, c.loop-number-test.false)))) v.so_far in
    run_done g.W.Files.act c.args.flow.now c.args.cores dues (number_at c.args.made.now) c.loop-number.done c.ended-2.result _ _ _ _ all
    (record { started_is = c.ended-2.ensures.started; done_is = c.ended-2.ensures.done; failed_is = c.ended-2.ensures.failed; first_is = c.ended-2.ensures.first })
    v.so_far
