use Rattle.std.proofs.Common.{◌∙◌, ap}
use Rattle.smk_flow.specs.Flows.{first_wants}
use Rattle.smk_chain_walk.specs.Heights.{paths_in}
use Rattle.smk_chain_walk.proofs.Climbed.{paths_told}
use Rattle.smk_chain_walk.proofs.climbing.first_paths.Goals as goal

pub returns : goal.returns
returns c = λ d placed is.
    let flow = c.args.flow.now in
    c.in_ok-made.ensures ∙ ap paths_in (c.as_slice.ensures ∙ c.in_ok-wants.ensures d placed is) ∙ paths_told (first_wants flow d)
