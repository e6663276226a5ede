use Rattle.std.proofs.Common.{◌≡◌, take, map, List}
use Rattle.std.specs.List.{flat_map}
use Rattle.std.specs.BTreeSet.{contains_text}
use Rattle.smk_world.specs.Trees.{Path}
use Rattle.smk_flow.specs.declared.job.Job.{Job}
use Rattle.smk_chain.specs.declared.jobs.Jobs.{Jobs}
use Rattle.smk_plan_states.specs.Lines.{output_of}
use Rattle.smk_plan_states.specs.Ways.{AreWays, AreWants, AreTemps}
use Rattle.smk_plan_states.proofs.making.outputs_in.Given as goal

abbrev pub invariant-loop-item : goal.invariant-loop-item
invariant-loop-item l = (J : Jobs) (asked : List Path) (j : Job) → AreWays J l.ways → AreWants J asked l.wants → AreTemps J asked j (λ q. contains_text l.temps q) l.feeds →
    l.found ≡ flat_map (λ item. map (λ out. output_of J asked j out.path) item.outs) (take l.item-index l.items)
