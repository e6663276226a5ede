use Rattle.std.proofs.Common.{◌≡◌, subst, ◌∙◌}
use Rattle.smk_store.specs.Sources.{AreUnowned, first_seen, is_seen}
use Rattle.smk_store.proofs.Looks.{if_ok}
use Rattle.smk_store.proofs.Meaning.{all_free}
use Rattle.smk_store.proofs.sources.seen_under.Goals as goal

pub returns-clause-told : goal.returns-clause-told
returns-clause-told g c =
    if_ok c.first_seen.result _ _
    (λ first h w at free.
    subst (λ xs. AreUnowned w xs → first ≡ first_seen (is_seen w) xs) (c.as_slice.ensures ∙ c.in_ok-sources.ensures) (h w at) (all_free w c.args.p.now c.args.store.now free))
    c.first_seen.ensures.told
