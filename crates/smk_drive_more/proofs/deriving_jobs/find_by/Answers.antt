use Rattle.std.proofs.Common.{ap, sym, ◌∙◌, true≢false}
use Rattle.smk_world.proofs.Devices.{looked_as, looked_nothing}
use Rattle.smk_plan_preview.specs.Faults.{is_device, is_sink, is_told}
use Rattle.smk_drive_more.proofs.Told.{more_of}
use Rattle.smk_drive_more.proofs.deriving_jobs.find_by.Goals as goal

pub returns-then-not-are_held-clause-looked : goal.returns-then-not-are_held-clause-looked
returns-then-not-are_held-clause-looked g c = looked_nothing g.W.Files.act _

pub returns-then-not-are_held-clause-told : goal.returns-then-not-are_held-clause-told
returns-then-not-are_held-clause-told g c = λ w at read reads beside told. absurd (true≢false (sym told))

pub returns-in-Err-clause-looked : goal.returns-in-Err-clause-looked
returns-in-Err-clause-looked g c = looked_as (sym (ap is_device c.in-Err.ensures.err)) (looked_nothing g.W.Files.act _)

pub returns-in-Err-clause-no_sink : goal.returns-in-Err-clause-no_sink
returns-in-Err-clause-no_sink g c = ap is_sink c.in-Err.ensures.err

pub returns-in-Err-clause-told : goal.returns-in-Err-clause-told
returns-in-Err-clause-told g c = λ w at read reads beside told. absurd (true≢false (sym told ∙ ap is_told c.in-Err.ensures.err))

pub returns-in-Ok-clause-told : goal.returns-in-Ok-clause-told
returns-in-Ok-clause-told g c = λ w at read reads beside.
    more_of read c.args.basis.now.flow.now c.args.basis.now.settings.now w c.args.live.now c.in-Ok.lists c.find_with.result c.in-Ok.ensures.ok
    (sym c.are_held.ensures ∙ c.if-not-are_held.false) c.find_with.ensures.lists (c.find_with.ensures.told w at read reads beside)
