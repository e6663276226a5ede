use Rattle.std.proofs.Common.{◌∙◌}
use Rattle.smk_world.proofs.Devices.{looked_on, looked_memory, looked_then, still}
use Rattle.smk_store.specs.Loading.{store_folder}
use Rattle.smk_store.proofs.Looks.{unowned_still, if_ok}
use Rattle.smk_store.proofs.Loads.{store_is, signs_still, stored_still}
use Rattle.smk_store.proofs.loading.loaded.Goals as goal

pub returns-in_err-signs-clause-looked : goal.returns-in_err-signs-clause-looked
returns-in_err-signs-clause-looked g c = looked_on _ c.in_err-signs.was c.from_residual.ensures.1 c.signs_in.ensures.looked

pub returns-in_err-all-clause-looked : goal.returns-in_err-all-clause-looked
returns-in_err-all-clause-looked g c = looked_memory _ c.from_residual-in_err-all.ensures.1 c.in_ok-signs.ensures.looked

pub returns-clause-looked : goal.returns-clause-looked
returns-clause-looked g c = looked_then c.in_ok-signs.ensures.looked c.store_of.ensures.looked

pub returns-clause-told : goal.returns-clause-told
returns-clause-told g c =
    if_ok c.store_of.result _ _
    (λ store h w at free read reads.
    let u = still w c.in_ok-signs.ensures.looked at in
    let signs = c.in_ok-signs.ensures.told w at free in
    store_is read w _ _ _ signs c.in_ok-all.all c.in_ok-all.ensures store
    (h u.0 u.1 (unowned_still w.nodes u.0.nodes store_folder u.2 free) (signs_still w u.0 _ _ _ u.2 signs) read reads ∙ stored_still read w u.0 _ u.2))
    c.store_of.ensures.told
