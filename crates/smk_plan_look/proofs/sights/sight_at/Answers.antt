use Rattle.std.proofs.Common.{ap, sym, ◌∙◌}
use Rattle.smk_world.specs.Calls.{stat_of}
use Rattle.smk_world.specs.World.{reading}
use Rattle.smk_world.proofs.Devices.{looked_stat, looked_failed, looked_on, looked_then, still}
use Rattle.smk_store.proofs.Looks.{stat_told, unowned_still}
use Rattle.smk_plan_look.proofs.Sighting.{itself_free, plain_seen, folder_read_at, sight_still}
use Rattle.smk_plan_look.proofs.sights.sight_at.Goals as goal

pub returns-in_err-stat-clause-looked : goal.returns-in_err-stat-clause-looked
returns-in_err-stat-clause-looked g c = looked_failed _ c.in_err-stat.was c.from_residual-in_err-stat.ensures.1 (looked_stat c.stat.ensures)

pub returns-in_err-sight-clause-looked : goal.returns-in_err-sight-clause-looked
returns-in_err-sight-clause-looked g c =
    looked_then (looked_stat c.in_ok-stat.ensures)
    (looked_on _ c.in_err-sight.was c.from_residual-in_err-sight.ensures.1 c.folder_at.ensures.looked)

pub returns-then-is_folder-clause-looked : goal.returns-then-is_folder-clause-looked
returns-then-is_folder-clause-looked g c = looked_then (looked_stat c.in_ok-stat.ensures) c.in_ok-sight.ensures.looked

pub returns-then-is_folder-clause-told : goal.returns-then-is_folder-clause-told
returns-then-is_folder-clause-told g c = λ w at free path.
    let p = c.args.path in
    let seen = stat_told w c.stat.ensures c.in_ok-stat.was at (itself_free w.nodes c.args.path c.in_ok-place.place c.in_ok-place.ensures free) ∙ ap (λ q. stat_of (reading (w.nodes q))) c.in_ok-place.ensures in
    let u = still w (looked_stat c.in_ok-stat.ensures) at in
    let at_v = seen ∙ sym (ap (λ n. stat_of (reading (n p))) u.2) in
    sight_still u.0.nodes w.nodes p _ u.2
    (c.in_ok-sight.ensures.told u.0 u.1 (unowned_still w.nodes u.0.nodes p u.2 free) path (folder_read_at u.0.nodes p c.in_ok-stat.stat at_v (sym c.is_folder.ensures ∙ c.if-is_folder.true)) at_v)

pub returns-clause-looked : goal.returns-clause-looked
returns-clause-looked g c = looked_stat c.in_ok-stat.ensures

pub returns-clause-told : goal.returns-clause-told
returns-clause-told g c = λ w at free path.
    plain_seen w ((g.met.W.Files.sound c.args.work.now).tree w at) c.args.path c.in_ok-stat.stat _ path
    (stat_told w c.stat.ensures c.in_ok-stat.was at (itself_free w.nodes c.args.path c.in_ok-place.place c.in_ok-place.ensures free) ∙ ap (λ q. stat_of (reading (w.nodes q))) c.in_ok-place.ensures)
    (sym c.is_folder.ensures ∙ c.if-is_folder.false) c.is_read_only.ensures
