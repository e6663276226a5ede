use Rattle.std.proofs.Common.{◌∙◌, List, subst, ap}
use Rattle.std.specs.List.{flat_map}
use Rattle.smk_world.specs.Trees.{Path}
use Rattle.smk_choose.specs.Told.{told_by, CoversAll}
use Rattle.smk_chain.specs.Derive.{wants}
use Rattle.smk_choose_wants.specs.declared.wanted.Want.{Want}
use Rattle.smk_chain_walk.specs.Stepping.{path_in}
use Rattle.smk_chain_walk.proofs.Taken.{paths_wanted}
use Rattle.smk_chain_walk.proofs.stepping.own_table.Goals as goal

pub returns : goal.returns
returns c = λ L d files wanted.
    subst (λ (ps : List Path). CoversAll c.args.flow.now (told_by c.args.sources.now) c.in_ok-of.field-0 201 ps)
    (c.in_ok-paths.ensures ∙ ap (λ (ws : List Want). flat_map path_in ws) wanted ∙ paths_wanted (wants c.args.flow.now L d)) c.in_ok-of.ensures
