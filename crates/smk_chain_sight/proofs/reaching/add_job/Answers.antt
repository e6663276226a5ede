use Rattle.std.proofs.Common.{◌++◌, ◌∙◌, ap, refl, List}
use Rattle.std.specs.List.{flat_map}
use Rattle.smk_world.specs.Trees.{Path}
use Rattle.smk_flow.specs.Flows.{Candidate}
use Rattle.smk_choose_wants.specs.declared.wanted.Want.{Want}
use Rattle.smk_chain_sight.specs.Reaching.{path_of}
use Rattle.smk_chain_sight.proofs.Distinct.{once}
use Rattle.smk_chain_sight.proofs.Spreading.{job_paths}
use Rattle.smk_chain_sight.proofs.reaching.add_job.Goals as goal

pub returns-clause-added : goal.returns-clause-added
returns-clause-added c =
    let m = c.args.job.now in
    let placed = c.requires.placed in
    let job : Candidate = record { rule = m.rule; part = placed.0; binding = m.binding } in
    c.in_ok-add_wants.ensures.added
    ∙ ap (λ (ws : List Want). once (c.args.found.now.paths.items ++ flat_map path_of ws)) c.as_slice.ensures
    ∙ ap (λ (ps : List Path). once (c.args.found.now.paths.items ++ ps)) (job_paths c.args.flow.now c.args.lists.now m placed.0 c.in_ok-wants.wants placed.1 (c.in_ok-wants.ensures job placed.1 refl))
