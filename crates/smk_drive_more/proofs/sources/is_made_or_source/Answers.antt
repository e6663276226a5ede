use Rattle.std.proofs.Common.{ap, sym, ◌||◌, ◌∙◌}
use Rattle.smk_store.specs.Images.{is_source}
use Rattle.smk_drive_more.proofs.sources.is_made_or_source.Goals as goal

pub returns-then-is_some-clause-told : goal.returns-then-is_some-clause-told
returns-then-is_some-clause-told g c = λ w at image v.
    sym (ap (λ b. b || is_source image c.args.maker.now.path) (sym c.is_some.ensures ∙ c.if-is_some.true))
