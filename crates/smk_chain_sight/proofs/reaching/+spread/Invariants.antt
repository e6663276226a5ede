use Rattle.smk_chain_sight.proofs.reaching.+spread.Given as goal

abbrev pub decreases-spread : goal.decreases-spread
decreases-spread g l = l.levels
