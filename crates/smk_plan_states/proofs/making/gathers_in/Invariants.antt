use Rattle.std.proofs.Common.{◌≡◌, take, map}
use Rattle.smk_chain.specs.declared.jobs.Jobs.{Jobs}
use Rattle.smk_plan_states.specs.Lines.{gathered_of}
use Rattle.smk_plan_states.specs.Ways.{AreWays}
use Rattle.smk_plan_states.proofs.making.gathers_in.Given as goal

abbrev pub invariant-loop-gather : goal.invariant-loop-gather
invariant-loop-gather l = (J : Jobs) → AreWays J l.ways → l.found ≡ map (λ g. gathered_of J g.folder) (take l.gather-index l.gathers)
