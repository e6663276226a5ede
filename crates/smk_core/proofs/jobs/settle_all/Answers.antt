use Rattle.std.proofs.Common.{◌≡◌, ◌<◌, ◌≤◌, ◌+◌, ℕ, List, length, get_or, drop, ◌∙◌, subst, arith}
use Rattle.std.proofs.lemmas.List.{drop_more, drop_all}
use Rattle.smk_core.specs.Lines.{AreReadyBut}
use Rattle.smk_core.proofs.Settling.{rest_more, rest_past, rest_done}
use Rattle.smk_core.proofs.jobs.settle_all.Goals as goal

pub loop-job-preserved : goal.loop-job-preserved
loop-job-preserved c =
    let jobs = c.args.jobs.now in
    let i = c.loop-job.job-index in
    let job = get_or jobs i 0 in
    let phases = c.args.phases.now in
    let befores = c.args.befores.now in
    let old = c.loop-job.ready.present in
    let many : length old ≡ length befores = c.loop-job.invariant.0.present_many in
    let inside : job < length old = omega arith in (
      c.settle.ensures.as_many,
      c.settle.ensures.known,
      rest_more job (drop (i + 1) jobs) phases befores old c.settle.new.ready.present
          (subst (λ (l : List ℕ). AreReadyBut l phases befores old) (drop_more jobs i 0 c.loop-job-test.true) c.loop-job.invariant.2) c.settle.ensures.ready.present_are inside,
      c.settle.ensures.ready.asks_are ∙ c.loop-job.invariant.3,
    )

pub loop-job-preserved-then-job-befores : goal.loop-job-preserved-then-job-befores
loop-job-preserved-then-job-befores c =
    let jobs = c.args.jobs.now in
    let i = c.loop-job.job-index in
    let job = get_or jobs i 0 in
    let phases = c.args.phases.now in
    let befores = c.args.befores.now in
    let old = c.loop-job.ready.present in
    let many : length old ≡ length befores = c.loop-job.invariant.0.present_many in
    let few : length phases ≡ length befores = c.loop-job.invariant.0.phases_many in
    let past : length befores ≤ job = c.if-job-befores.true in (
      c.loop-job.invariant.0,
      c.loop-job.invariant.1,
      rest_past job (drop (i + 1) jobs) phases befores old
          (subst (λ (l : List ℕ). AreReadyBut l phases befores old) (drop_more jobs i 0 c.loop-job-test.true) c.loop-job.invariant.2) (omega arith) (omega arith),
      c.loop-job.invariant.3,
    )

pub returns : goal.returns
returns c =
    let phases = c.args.phases.now in
    let befores = c.args.befores.now in
    let present = c.loop-job.ready.present in
    record {
      ready = (
        rest_done phases befores present
            (subst (λ (l : List ℕ). AreReadyBut l phases befores present) (drop_all c.loop-job.job-index c.args.jobs.now c.loop-job-test.false) c.loop-job.invariant.2),
        c.loop-job.invariant.3,
      );
      known = c.loop-job.invariant.1;
      as_many = c.loop-job.invariant.0;
    }
