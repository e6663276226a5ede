use Rattle.smk_choose.proofs.reach.+deepen.Given as goal

abbrev pub decreases-deepen : goal.decreases-deepen
decreases-deepen a = a.levels
