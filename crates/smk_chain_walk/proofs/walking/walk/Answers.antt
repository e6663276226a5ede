use Rattle.std.proofs.Common.{refl}
use Rattle.smk_chain.specs.declared.jobs.Jobs.{Jobs}
use Rattle.smk_chain_walk.proofs.walking.walk.Goals as goal

pub returns-clause-walked : goal.returns-clause-walked
returns-clause-walked c =
    let reached = c.in_ok-reached in
    let made : Jobs = record { jobs = reached.reached.jobs; befores = reached.reached.befores; makers = c.in_ok-makers.makers; lists = c.args.lists } in
    record {
      none = reached.ensures.none;
      called = reached.ensures.jobs;
      links = reached.ensures.links made c.in_ok-makers.ensures.makers refl;
      lists = refl;
    }
