use Rattle.std.proofs.Common.{◌++◌, ◌∷◌, [], ◌∙◌, ap, refl, List}
use Rattle.std.proofs.lemmas.List.{take_all}
use Rattle.smk_world.specs.Trees.{Path}
use Rattle.smk_chain_sight.proofs.Distinct.{once, nothing_added}
use Rattle.smk_chain_sight.proofs.Spreading.{paths_step}
use Rattle.smk_chain_sight.proofs.reaching.add_paths.Goals as goal

pub loop-path-init : goal.loop-path-init
loop-path-init c = record { kept = c.requires; added = nothing_added c.args.found.now.paths.items _ c.requires.each refl }

pub loop-path-preserved : goal.loop-path-preserved
loop-path-preserved c =
    record {
      kept = c.in_ok-add.ensures.kept;
      added = paths_step c.args.paths.now c.loop-path.path-index c.path-item.result c.args.found.now.paths.items c.loop-path.found.paths.items _ c.loop-path-test.true c.path-item.is c.loop-path.invariant.added
          (c.in_ok-add.ensures.added ∙ ap (λ (p : Path). once (c.loop-path.found.paths.items ++ p ∷ [])) c.in_ok-copy.ensures);
    }

pub returns-clause-added : goal.returns-clause-added
returns-clause-added c = c.loop-path.invariant.added ∙ ap (λ (ps : List Path). once (c.args.found.now.paths.items ++ ps)) (take_all c.loop-path.path-index c.args.paths.now c.loop-path-test.false)
