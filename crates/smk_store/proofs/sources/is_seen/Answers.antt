use Rattle.std.proofs.Common.{◌≢◌, ap, sym, subst, ◌∙◌}
use Rattle.smk_world.specs.declared.event.NodeState.TheVariants.{Owned}
use Rattle.smk_world.specs.World.{reading}
use Rattle.smk_world.specs.Calls.{stat_of}
use Rattle.smk_store.specs.Sources.{has_time}
use Rattle.smk_world.proofs.Devices.{looked_stat, looked_failed}
use Rattle.smk_store.proofs.Looks.{stat_told}
use Rattle.smk_store.proofs.sources.is_seen.Goals as goal

pub returns-in_err-stat-clause-looked : goal.returns-in_err-stat-clause-looked
returns-in_err-stat-clause-looked g c = looked_failed _ c.in_err-stat.was c.from_residual-in_err-stat.ensures.1 (looked_stat c.stat.ensures)

pub returns-clause-looked : goal.returns-clause-looked
returns-clause-looked g c = looked_stat c.in_ok-stat.ensures

pub returns-clause-told : goal.returns-clause-told
returns-clause-told g c = λ w at free.
    c.has_time.ensures ∙ ap (has_time c.args.source.now.time)
    (stat_told w c.stat.ensures c.in_ok-stat.was at (subst (λ q. w.nodes q ≢ Owned) (sym c.in_ok-place.ensures) free)
    ∙ ap (λ q. stat_of (reading (w.nodes q))) c.in_ok-place.ensures)
