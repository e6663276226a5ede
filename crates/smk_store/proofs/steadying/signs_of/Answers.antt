use Rattle.std.proofs.Common.{◌≡◌, subst, ◌∙◌}
use Rattle.std.specs.Prelude.{IfOk}
use Rattle.smk_store.specs.Stores.{known}
use Rattle.smk_store.specs.Steadying.{all_signs}
use Rattle.smk_store.proofs.Greatest.{known_back}
use Rattle.smk_store.proofs.steadying.signs_of.Goals as goal

pub returns : goal.returns
returns c =
    subst (λ ks. IfOk c.signs_in.result (λ places. places ≡ all_signs ks))
    ((λ i. known ((c.as_slice.ensures ∙ c.paths.ensures.value) i) ((c.as_slice-2.ensures ∙ c.entries.ensures) i)) ∙ known_back c.args.store.now) c.signs_in.ensures
