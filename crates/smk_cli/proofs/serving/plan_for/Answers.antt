use Rattle.std.proofs.Common.{subst, ◌∙◌}
use Rattle.smk_world.proofs.Devices.{looked_as, looked_nothing}
use Rattle.smk_store.specs.Images.{seen}
use Rattle.smk_store.proofs.Idle.{none_owned}
use Rattle.smk_plan_preview.specs.Previewing.{HasPreviewed}
use Rattle.smk_cli_calls.specs.Serving.{settings_of}
use Rattle.smk_cli.proofs.PreviewKinds.{device_same, fit_by}
use Rattle.smk_cli.proofs.serving.plan_for.Goals as goal

pub returns-in_default-clause-looked : goal.returns-in_default-clause-looked
returns-in_default-clause-looked g c = looked_nothing g.W.Files.act _

pub returns-clause-looked : goal.returns-clause-looked
returns-clause-looked g c = looked_as (device_same c.preview.result) c.preview.ensures.looked

pub returns-clause-no_sink : goal.returns-clause-no_sink
returns-clause-no_sink g c = c.preview.ensures.no_sink

pub returns-clause-fit : goal.returns-clause-fit
returns-clause-fit g c = fit_by c.args.asked.now.flow c.in-Ok.settings (settings_of c.args.asked.now c.args.words.now) c.preview.result c.in-Ok.ensures c.preview.ensures.good

pub returns-clause-told : goal.returns-clause-told
returns-clause-told g c = λ w at read reads.
    let sound = g.met.W.Files.sound c.args.work.now in
    let none = none_owned w (sound.owned w at) (sound.same_numbers w at ∙ c.requires.none_runs) in
    subst (λ settings. HasPreviewed read c.args.asked.now.flow settings (seen read w) c.preview.result) c.in-Ok.ensures (c.preview.ensures.told w at none read reads)
