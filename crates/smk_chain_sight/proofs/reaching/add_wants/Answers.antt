use Rattle.smk_chain_sight.specs.Reaching.{path_of}
use Rattle.smk_chain_sight.proofs.Spreading.{loop_begun, loop_step, loop_done}
use Rattle.smk_chain_sight.proofs.reaching.add_wants.Goals as goal

pub loop-want-init : goal.loop-want-init
loop-want-init c = record { kept = c.requires; added = loop_begun path_of c.args.wants.now c.args.found.now.paths.items c.requires.each }

pub loop-want-preserved : goal.loop-want-preserved
loop-want-preserved c =
    record {
      kept = c.in_ok-add_want.ensures.kept;
      added = loop_step path_of c.args.wants.now c.loop-want.want-index c.want-item.result c.args.found.now.paths.items c.loop-want.found.paths.items _ c.loop-want-test.true c.want-item.is c.loop-want.invariant.added
          c.in_ok-add_want.ensures.added;
    }

pub returns-clause-added : goal.returns-clause-added
returns-clause-added c = loop_done path_of c.args.wants.now c.loop-want.want-index c.args.found.now.paths.items _ c.loop-want-test.false c.loop-want.invariant.added
