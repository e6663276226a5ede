use Rattle.std.proofs.Common.{◌≡◌, drop}
use Rattle.smk_plan_facts.specs.Telling.{are_sorted_in}
use Rattle.smk_plan_facts.proofs.rising.are_sorted.Given as goal

abbrev pub invariant-loop-directory : goal.invariant-loop-directory
invariant-loop-directory g l = are_sorted_in (g.T.Told.seen l.told) l.directories ≡ are_sorted_in (g.T.Told.seen l.told) (drop l.directory-index l.directories)
