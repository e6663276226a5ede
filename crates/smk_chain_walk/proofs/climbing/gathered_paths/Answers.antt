use Rattle.std.proofs.Common.{◌∙◌, ap}
use Rattle.smk_chain.specs.Derive.{gathered_files}
use Rattle.smk_chain_walk.specs.Heights.{paths_in}
use Rattle.smk_chain_walk.proofs.Climbed.{paths_told}
use Rattle.smk_chain_walk.proofs.climbing.gathered_paths.Goals as goal

pub returns : goal.returns
returns c = λ d placed is.
    let flow = c.args.flow.now in
    c.in_ok-made.ensures ∙ ap paths_in (c.as_slice.ensures ∙ c.in_ok-wants.ensures d placed is) ∙ paths_told (gathered_files flow c.args.lists.now d)
