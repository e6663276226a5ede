use Rattle.smk_choose.proofs.reach.+expand.Given as goal

abbrev pub decreases-expand : goal.decreases-expand
decreases-expand a = a.levels
