use Rattle.std.proofs.Common.{◌≡◌, ◌++◌, take, map}
use Rattle.smk_chain.specs.declared.jobs.Jobs.{Jobs}
use Rattle.smk_plan_states.specs.Lines.{gathered_spot}
use Rattle.smk_plan_states.specs.Ways.{AreWays}
use Rattle.smk_plan_states.proofs.awaits.push_gathers.Given as goal

abbrev pub invariant-loop-gather : goal.invariant-loop-gather
invariant-loop-gather l = (J : Jobs) → AreWays J l.ways → l.found ≡ l.initial.found ++ map (λ g. gathered_spot J g.folder) (take l.gather-index l.gathers)
