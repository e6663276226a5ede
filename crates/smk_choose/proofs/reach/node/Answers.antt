use Rattle.std.proofs.Common.{sym, ◌∙◌}
use Rattle.smk_choose.specs.Told.{told_by}
use Rattle.smk_choose.proofs.Listed.{candidates_placed}
use Rattle.smk_choose.proofs.Growing.{node_made}
use Rattle.smk_choose.proofs.reach.node.Goals as goal

pub returns-clause-is : goal.returns-clause-is
returns-clause-is c =
    node_made c.args.flow.now (told_by c.args.sources.now) c.deref.result.now _ c.in_ok-ways.ways c.args.path.now c.in_ok-found.found.items
    (candidates_placed c.args.flow.now (told_by c.args.sources.now) c.args.path.now) (c.deref.ensures.value ∙ c.requires.readings.rules) c.in_ok-found.ensures c.in_ok-ways.ensures.are (sym c.is.ensures ∙ c.if-is.false)
