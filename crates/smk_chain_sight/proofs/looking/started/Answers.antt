use Rattle.std.proofs.Common.{◌++◌, ◌∙◌, ap, List}
use Rattle.smk_world.specs.Trees.{Path}
use Rattle.smk_chain_sight.proofs.Distinct.{once}
use Rattle.smk_chain_sight.proofs.looking.started.Goals as goal

pub returns-clause-are : goal.returns-clause-are
returns-clause-are c =
    c.in_ok-add_paths.ensures.added
    ∙ ap (λ (ps : List Path). once (ps ++ c.as_slice.result.now)) c.no_paths-found.ensures.none
    ∙ ap once c.as_slice.ensures
