use Rattle.std.proofs.Common.{ap, ◌∙◌}
use Rattle.smk_store.specs.Stores.{entry_of}
use Rattle.std.proofs.lemmas.Result.{IfOk-weaker}
use Rattle.smk_plan_facts.specs.Telling.{copied, or_absent}
use Rattle.smk_plan_facts.proofs.Entries.{kept_told}
use Rattle.smk_plan_facts.proofs.copies.copy_at.Goals as goal

pub returns : goal.returns
returns g c =
    IfOk-weaker c.copy_of.result _ _ (
    λ copy e. e
    ∙ ap (λ k. copied (or_absent k)) c.kept.ensures
    ∙ ap copied (kept_told (entry_of (g.T.Told.known c.args.told.now) c.args.path.now))
    ) c.copy_of.ensures
