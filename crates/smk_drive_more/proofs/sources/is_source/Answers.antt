use Rattle.std.proofs.Common.{ap, sym, ◌∙◌}
use Rattle.smk_world.specs.World.{reading}
use Rattle.smk_world.specs.Calls.{stat_of}
use Rattle.smk_world.proofs.Devices.{looked_failed, looked_stat}
use Rattle.smk_store.proofs.Looks.{stat_told}
use Rattle.smk_chain_sight.specs.Viewing.{by_stat}
use Rattle.smk_chain_sight.proofs.Stand.{sighted_covered, sighted_is}
use Rattle.smk_chain_sight.proofs.Eyes.{unowned_at}
use Rattle.smk_drive_more.proofs.sources.is_source.Goals as goal

pub returns-then-covered-clause-told : goal.returns-then-covered-clause-told
returns-then-covered-clause-told g c = λ w at image v.
    (sighted_covered w.nodes c.args.store.now image v c.args.path.now (sym c.covered.ensures ∙ c.if-covered.true)).source

pub returns-in_err-stat-clause-looked : goal.returns-in_err-stat-clause-looked
returns-in_err-stat-clause-looked g c = looked_failed _ c.in_err-stat.was c.from_residual-in_err-stat.ensures.1 (looked_stat c.stat.ensures)

pub returns-clause-looked : goal.returns-clause-looked
returns-clause-looked g c = looked_stat c.in_ok-stat.ensures

pub returns-clause-told : goal.returns-clause-told
returns-clause-told g c = λ w at image v.
    let text = c.text_of-text.ensures.text in
    let uncovered = sym c.covered.ensures ∙ c.if-covered.false in
    let stat =
    stat_told w c.stat.ensures c.in_ok-stat.was at (unowned_at w.nodes c.args.store.now image v c.args.path.now c.in_ok-place.place c.in_ok-place.ensures text uncovered)
    ∙ ap (λ q. stat_of (reading (w.nodes q))) c.in_ok-place.ensures in
    c.is_file.ensures ∙ (ap (λ s. (by_stat s).source) stat ∙ (sighted_is w.nodes c.args.store.now image v c.args.path.now text uncovered).source)
