use Rattle.std.proofs.Common.{◌≡◌, take, map, List}
use Rattle.smk_world.specs.Trees.{Path}
use Rattle.smk_chain.specs.declared.jobs.Jobs.{Jobs}
use Rattle.smk_plan_states.specs.Lines.{temp_of}
use Rattle.smk_plan_states.specs.Ways.{AreWays, AreWants}
use Rattle.smk_plan_states.proofs.making.temps_in.Given as goal

abbrev pub invariant-loop-path : goal.invariant-loop-path
invariant-loop-path l = (J : Jobs) (asked : List Path) → AreWays J l.ways → AreWants J asked l.wants → l.found ≡ map (temp_of J asked) (take l.path-index l.temps)
