use Rattle.std.proofs.Common.{◌≡◌, take, map, List}
use Rattle.smk_world.specs.Trees.{Path}
use Rattle.smk_chain.specs.declared.jobs.Jobs.{Jobs}
use Rattle.smk_plan_states.specs.Lines.{line_of}
use Rattle.smk_plan_states.specs.Ways.{AreWays, AreWants}
use Rattle.smk_plan_states.proofs.making.lines_of.Given as goal

abbrev pub invariant-loop-job : goal.invariant-loop-job
invariant-loop-job l = (J : Jobs) (asked : List Path) → AreWays J l.ways → AreWants J asked l.wants → l.lines ≡ map (line_of J asked) (take l.job-index l.jobs)
