use Rattle.std.proofs.Common.{◌≡◌, ◌++◌, take, map, List}
use Rattle.std.specs.BTreeSet.{contains_text}
use Rattle.smk_world.specs.Trees.{Path}
use Rattle.smk_flow.specs.declared.job.Job.{Job}
use Rattle.smk_chain.specs.declared.jobs.Jobs.{Jobs}
use Rattle.smk_plan_states.specs.Lines.{output_of}
use Rattle.smk_plan_states.specs.Ways.{AreWays, AreWants, AreTemps}
use Rattle.smk_plan_states.proofs.making.push_outputs.Given as goal

abbrev pub invariant-loop-out : goal.invariant-loop-out
invariant-loop-out l = (J : Jobs) (asked : List Path) (j : Job) → AreWays J l.ways → AreWants J asked l.wants → AreTemps J asked j (λ q. contains_text l.temps q) l.feeds →
    l.found ≡ l.initial.found ++ map (λ out. output_of J asked j out.path) (take l.out-index l.outs)
