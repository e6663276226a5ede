use Rattle.smk_world_mem.specs.Trees.{tree_told}
use Rattle.smk_world_mem.specs.Work.{world_in}
use Rattle.smk_gen.proofs.Placed.{generated}
use Rattle.smk_gen.proofs.filling.fill.Goals as goal

pub returns-then-is_at_rest-clause-files : goal.returns-then-is_at_rest-clause-files
returns-then-is_at_rest-clause-files c =
    let work = c.place_all.new.work in
    generated c.args.seed c.args.size c.requires.least c.requires.most (world_in work) c.in_ok-place_all.ensures.put
    (λ w told. tree_told work.told work.nodes work.steps work.children work.next work.agrees work.orderly work.rooted w told)
    (c.is_at_rest.ensures.rest.0 c.if-is_at_rest.true)
