use Rattle.std.proofs.Common.{◌≡◌, subst, ap, ◌∙◌}
use Rattle.std.specs.Prelude.{IfOk}
use Rattle.std.specs.List.{flat_map}
use Rattle.smk_store.specs.Sources.{entry_sources}
use Rattle.smk_store.specs.Stores.{Known}
use Rattle.smk_store.proofs.Greatest.{listed_map}
use Rattle.smk_store.proofs.sources.sources_under.Goals as goal

pub returns : goal.returns
returns c =
    let p = c.args.p.now in
    subst (λ es. IfOk c.sources_in.result (λ found. found ≡ es))
    (ap (flat_map (entry_sources p)) (c.as_slice.ensures ∙ c.entries.ensures) ∙ listed_map (entry_sources p) (λ (k : Known). k.entry) c.args.store.now) c.sources_in.ensures
