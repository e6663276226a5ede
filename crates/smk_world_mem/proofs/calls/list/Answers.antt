use Rattle.std.proofs.Common.{rules, [], refl}
use Rattle.smk_world_nodes.proofs.Lists.{listing_is}
use Rattle.smk_world_mem.proofs.calls.list.Goals as goal

pub returns-clause-adds : goal.returns-clause-adds
returns-clause-adds c = record {
  left = [];
  steps_are = search rules;
  lets = λ w agrees. (refl, listing_is c.args.nodes.now w c.args.p.now agrees c.in_ok-found.ensures.rising c.in_ok-found.found c.in_ok-found.ensures.listing);
  nodes_are = λ w agrees. agrees;
}
