use Rattle.std.proofs.Common.{ap, sym, ◌∙◌}
use Rattle.std.specs.List.{list_any}
use Rattle.std.proofs.lemmas.Result.{IfOk-weaker}
use Rattle.smk_world.proofs.Devices.{looked_then, still}
use Rattle.smk_store.specs.Images.{is_source}
use Rattle.smk_chain_sight.proofs.Eyes.{viewed_still}
use Rattle.smk_chain_sight.proofs.Stand.{holds_above, holds_none, holds_by}
use Rattle.smk_chain_sight.proofs.seeing.has_around.Goals as goal

pub returns-then-over-clause-told : goal.returns-then-over-clause-told
returns-then-over-clause-told g c = λ w at image v path here under known.
    let a = c.in_ok-over.ensures.told w at image v known in
    (sym (holds_above w.nodes c.args.store.now image v c.args.path.now (ap (list_any (is_source image)) (sym (c.deref.ensures.value ∙ c.in_ok-above.ensures)) ∙ sym a.0 ∙ c.if-over.true)), a.1)

pub returns-then-folder-clause-looked : goal.returns-then-folder-clause-looked
returns-then-folder-clause-looked g c =
    looked_then c.in_ok-over.ensures.looked c.has_under.ensures.looked

pub returns-then-folder-clause-told : goal.returns-then-folder-clause-told
returns-then-folder-clause-told g c =
    IfOk-weaker c.has_under.result _ _
    (λ found h w at image v path here under known.
    let a = c.in_ok-over.ensures.told w at image v known in
    let u = still w c.in_ok-over.ensures.looked at in
    let t = h u.0 u.1 image (viewed_still w.nodes u.0.nodes c.args.store.now image u.2 v) path in
    (holds_by w.nodes c.args.store.now image v c.args.path.now found here (ap (list_any (is_source image)) (sym (c.deref.ensures.value ∙ c.in_ok-above.ensures)) ∙ sym a.0 ∙ c.if-over.false) t, a.1))
    c.has_under.ensures.told

pub returns-clause-told : goal.returns-clause-told
returns-clause-told g c = λ w at image v path here under known.
    let a = c.in_ok-over.ensures.told w at image v known in
    (sym (holds_none w.nodes c.args.store.now image v c.args.path.now here (ap (list_any (is_source image)) (sym (c.deref.ensures.value ∙ c.in_ok-above.ensures)) ∙ sym a.0 ∙ c.if-over.false) (under c.if-folder.false)), a.1)
