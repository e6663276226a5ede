use Rattle.std.proofs.Common.{◌≡◌, true, ap, sym, ◌∙◌}
use Rattle.std.specs.BTreeSet.{contains_text}
use Rattle.smk_store.proofs.Looks.{if_ok}
use Rattle.smk_store.proofs.Loads.{kept_yes, kept_no, record_stands}
use Rattle.smk_store.proofs.loading.kept_of.Goals as goal

pub returns-then-contains-clause-told : goal.returns-then-contains-clause-told
returns-then-contains-clause-told g c =
    let there : contains_text c.args.signs.now.records c.args.path.now ≡ true = ap (contains_text c.args.signs.now.records) (sym c.as_str.ensures.text) ∙ sym c.contains.ensures ∙ c.if-contains.true in
    if_ok c.kept_at.result _ _
    (λ kept h w at free signs path read reads. kept_yes read w _ _ _ signs c.args.path.now path kept (h w at free (record_stands read w _ _ _ signs c.args.path.now path there) read reads))
    c.kept_at.ensures.told

pub returns-else-contains-clause-told : goal.returns-else-contains-clause-told
returns-else-contains-clause-told g c = λ w at free signs path read reads.
    kept_no read w _ _ _ signs c.args.path.now path (ap (contains_text c.args.signs.now.records) (sym c.as_str.ensures.text) ∙ sym c.contains.ensures ∙ c.if-contains.false)
