use Rattle.std.proofs.Common.{ap, option_map, sym, ◌∙◌}
use Rattle.smk_drive_hub.specs.Keeping.{parts_of}
use Rattle.smk_laws_closes.proofs.Noting.{ended_by, never_none}
use Rattle.smk_drive_close.proofs.Halting.{heeded_commands}
use Rattle.smk_drive_close.proofs.closing.end.Goals as goal

pub returns-in_default-clause-ended : goal.returns-in_default-clause-ended
returns-in_default-clause-ended g c = never_none (λ j. j.now) c.job_at.result _ c.job_at.ensures c.in_default.is c.requires.known

pub returns-in_default-clause-commands : goal.returns-in_default-clause-commands
returns-in_default-clause-commands g c = never_none (λ j. j.now) c.job_at.result _ c.job_at.ensures c.in_default.is c.requires.known

pub returns-clause-ended : goal.returns-clause-ended
returns-clause-ended g c =
    ended_by g.W.Files.act c.args.ground.flow.now c.args.ground.settings.now (parts_of c.args.hub.now) (parts_of c.heed.new.self) (parts_of c.heed-2.new.self) c.args.number
    c.args.done.now c.args.ending c.is_good-good.result _ _ _ _ c.in-Some.job.now c.note_end-noted.result c.tend-tended.result c.note_end-noted.new.tally
    c.note_end-noted.new.lines.goes_on c.tend-tended.new.live c.is_good-good.ensures c.heed.ensures c.heed-2.ensures
    (sym c.job_at.ensures ∙ ap (option_map (λ j. j.now)) c.in-Some.is) c.note_end-noted.ensures.lost c.note_end-noted.ensures.counted c.note_end-noted.ensures.barely
    c.note_end-noted.ensures.whole c.note_end-noted.ensures.silent c.note_end-noted.ensures.cut c.note_end-noted.ensures.told c.tend-tended.ensures.same
    c.tend-tended.ensures.acted c.tend-tended.ensures.other

pub returns-clause-commands : goal.returns-clause-commands
returns-clause-commands g c =
    heeded_commands c.args.ground.flow.now c.args.ground.settings.now c.tend-tended.result (record (parts_of c.heed.new.self) { live = c.tend-tended.new.live })
    (parts_of c.heed-2.new.self) c.heed-2.ensures c.tend-tended.ensures.commands
