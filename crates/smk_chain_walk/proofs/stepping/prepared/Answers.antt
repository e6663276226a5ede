use Rattle.std.proofs.Common.{◌∙◌}
use Rattle.smk_choose.specs.Told.{told_by}
use Rattle.smk_choose.proofs.Picked.{chosen_placed}
use Rattle.smk_chain_walk.proofs.stepping.prepared.Goals as goal

pub returns-clause-wants : goal.returns-clause-wants
returns-clause-wants c = λ p d e is.
    let placed = chosen_placed c.args.flow.now (told_by c.args.sources.now) p d e in
    let wants = c.in_ok-wants.ensures d placed is in
    (wants, c.in_ok-own.ensures c.args.lists.now d (c.as_slice.ensures ∙ c.in_ok-files.ensures d placed is) (c.as_slice-2.ensures ∙ wants))
