use Rattle.std.proofs.Common.{ap, ◌∙◌}
use Rattle.smk_store.specs.Images.{readable}
use Rattle.smk_store.specs.Stores.{entry_of}
use Rattle.smk_plan_facts.specs.Telling.{or_absent}
use Rattle.smk_plan_facts.proofs.Entries.{kept_told}
use Rattle.smk_plan_facts.proofs.known.record_at.Goals as goal

pub returns : goal.returns
returns g c =
    c.record_of.ensures
    ∙ ap (λ k. readable (or_absent k)) c.kept.ensures
    ∙ ap readable (kept_told (entry_of (g.T.Told.known c.args.told.now) c.args.path.now))
