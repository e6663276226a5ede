use Rattle.std.proofs.Common.{◌≡◌, ◌++◌, false, drop}
use Rattle.smk_chain.specs.declared.jobs.Jobs.{Jobs}
use Rattle.smk_plan_states.specs.Keys.{has_key}
use Rattle.smk_plan_states.specs.Rows.{lent}
use Rattle.smk_plan_states.specs.Ways.{AreWays, inputs_by}
use Rattle.smk_plan_states.proofs.making.inputs_in.Given as goal

abbrev pub invariant-loop-path : goal.invariant-loop-path
invariant-loop-path l = (J : Jobs) → AreWays J l.ways →
    l.found ++ inputs_by J l.name (has_key l.seen) (lent (drop l.path-index l.paths)) ≡ inputs_by J l.name (λ p. false) (lent l.paths)
