use Rattle.smk_plan_preview.proofs.Chains.{plan_refused}
use Rattle.smk_drive_first.proofs.Kept.{begun_ok, fresh_of}
use Rattle.smk_drive_first.proofs.rounds.begun.Goals as goal

pub returns-in-Ok-clause-fresh : goal.returns-in-Ok-clause-fresh
returns-in-Ok-clause-fresh g c =
    let e = c.in-Ok.ensures in fresh_of c.args.settings c.args.jobs c.args.store c.args.seen c.in-Ok.live e.live e.first.0 e.first.1

pub returns-in-Ok-clause-told : goal.returns-in-Ok-clause-told
returns-in-Ok-clause-told g c = λ image agree.
    let e = c.in-Ok.ensures in
    begun_ok c.args.flow.now c.args.settings image c.args.jobs c.in-Ok.live
    (fresh_of c.args.settings c.args.jobs c.args.store c.args.seen c.in-Ok.live e.live e.first.0 e.first.1) e.first.0.now (e.so image agree)

pub returns-in-Err-clause-told : goal.returns-in-Err-clause-told
returns-in-Err-clause-told g c = λ image agree.
    record {
      agrees = tt;
      plans = λ told.
          plan_refused c.args.flow.now image c.args.settings c.args.jobs c.in-Err.fault c.of_plan.result c.of_plan.ensures.is
          (λ memory. c.in-Err.ensures.refused memory image agree) told;
    }
