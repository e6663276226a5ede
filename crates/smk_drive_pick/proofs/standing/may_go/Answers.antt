use Rattle.std.proofs.Common.{◌∙◌, ap, option_map}
use Rattle.smk_store.specs.declared.store.Entry.{Entry}
use Rattle.smk_store.specs.Stores.{entry_of}
use Rattle.smk_plan.specs.Sights.{sight_at}
use Rattle.smk_plan_live.specs.declared.base.Base.{Base}
use Rattle.smk_plan_live.specs.Now.{known_now, seen_now}
use Rattle.smk_drive_pick.specs.Spending.{was_loose}
use Rattle.smk_drive_pick.proofs.standing.may_go.Goals as goal

pub returns : goal.returns
returns c =
    let path = c.args.path.now in
    c.in_ok-goes.ensures
    ∙ (λ i. was_loose ((c.kept.ensures ∙ ap (λ (b : Base). option_map (λ (e : Entry). e.kept) (entry_of (known_now b) path)) c.told-told.ensures) i)
    ((c.sight.ensures ∙ ap (λ (b : Base). sight_at (seen_now b) path) c.told-told.ensures) i))
