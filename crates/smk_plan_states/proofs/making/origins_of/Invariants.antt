use Rattle.std.proofs.Common.{◌≡◌, take, map}
use Rattle.smk_chain.specs.declared.jobs.Jobs.{Jobs}
use Rattle.smk_plan_states.specs.Lines.{origin_of}
use Rattle.smk_plan_states.specs.Ways.{AreWays}
use Rattle.smk_plan_states.proofs.making.origins_of.Given as goal

abbrev pub invariant-loop-maker : goal.invariant-loop-maker
invariant-loop-maker l = (J : Jobs) → AreWays J l.ways → l.origins ≡ map (origin_of J.jobs) (take l.maker-index l.makers)
