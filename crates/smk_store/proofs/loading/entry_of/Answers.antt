use Rattle.std.proofs.Common.{ap, ◌∙◌}
use Rattle.std.specs.BTreeSet.{contains_text}
use Rattle.smk_world.proofs.Devices.{looked_on}
use Rattle.smk_store.proofs.Loads.{entry_is}
use Rattle.smk_store.proofs.loading.entry_of.Goals as goal

pub returns-in_err-kept-clause-looked : goal.returns-in_err-kept-clause-looked
returns-in_err-kept-clause-looked g c = looked_on _ c.in_err-kept.was c.from_residual.ensures.1 c.kept_of.ensures.looked

pub returns-clause-told : goal.returns-clause-told
returns-clause-told g c = λ w at free signs path read reads.
    entry_is read w _ _ _ signs c.args.path.now path c.in_ok-kept.kept c.contains.result c.contains-2.result
    (c.in_ok-kept.ensures.told w at free signs path read reads)
    (c.contains.ensures ∙ ap (contains_text c.args.signs.now.marks) c.as_str.ensures.text)
    (c.contains-2.ensures ∙ ap (contains_text c.args.signs.now.notes) c.as_str-2.ensures.text)
