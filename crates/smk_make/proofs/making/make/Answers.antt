use Rattle.std.proofs.Common.{◌∙◌}
use Rattle.smk_make.proofs.Made.{not_firm, with_settled}
use Rattle.smk_make.proofs.making.make.Goals as goal

pub returns-in-Err : goal.returns-in-Err
returns-in-Err g c =
    let plan = c.args.plan.now in
    record {
      settled = c.steady.result;
      firm = g.W.Files.device c.steady.new.work;
      settling = c.steady.ensures.acted;
      goes_on = not_firm g.W.Files.act c.args.flow.now c.args.cores c.args.targets.now plan.jobs.now plan.states.now plan.store.now c.steady.result c.in-Err.fault c.from.result _ _ c.in-Err.is c.from.ensures;
    }

pub serve-requires : goal.serve-requires
serve-requires g c = (c.type_bounds.sync-Rt, (c.steady.ensures.acted.running ∙ c.requires.none_runs, c.requires.fit))

pub returns-in-Ok : goal.returns-in-Ok
returns-in-Ok g c =
    let plan = c.args.plan.now in
    record {
      settled = c.steady.result;
      firm = g.W.Files.device c.steady.new.work;
      settling = c.steady.ensures.acted;
      goes_on = with_settled g.W.Files.act c.args.flow.now c.args.cores c.args.targets.now plan.jobs.now plan.states.now plan.store.now c.serve.result c.steady.result c.in-Ok.field-0 _ _ _ _ c.in-Ok.is c.serve.ensures;
    }
