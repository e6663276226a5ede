use Rattle.std.proofs.Common.{◌∙◌, ap, inl, refl}
use Rattle.std.proofs.lemmas.Result.{err_from_is_err_and}
use Rattle.smk_chain.specs.declared.jobs.Jobs.{Jobs}
use Rattle.smk_report.specs.declared.fault.Fault.TheVariants as fault
use Rattle.smk_drive_hub.specs.Keeping.{parts_of}
use Rattle.smk_laws_begins.proofs.Turn.{unfit_turns}
use Rattle.smk_drive_begin.proofs.Notes.{at_number, begun_all, unfit_by}
use Rattle.smk_drive_begin.proofs.starting.begin.Goals as goal

pub returns-in_default-clause-turned : goal.returns-in_default-clause-turned
returns-in_default-clause-turned g c =
    unfit_turns g.W.Files.act c.args.ground.flow.now c.args.ground.settings.now (parts_of c.args.hub.now) c.args.number fault.OutOfMemory _ _ c.requires.may
    c.requires.live (inl refl)

pub kit_of-requires : goal.kit_of-requires
kit_of-requires g c =
    record {
      job =
          at_number c.as_slice.result.now c.args.hub.now.live.base.jobs.jobs c.args.number c.in-Some.job.now c.in-Some.ensures.lookup.0 c.in-Some.ensures.lookup.1
          (c.as_slice.ensures ∙ ap (λ (js : Jobs). js.jobs) c.jobs.ensures);
    }

pub returns-in_err-kit-clause-turned : goal.returns-in_err-kit-clause-turned
returns-in_err-kit-clause-turned g c =
    let p = err_from_is_err_and c.from_residual.result c.from_residual.ensures.1 in
    unfit_by g.W.Files.act c.args.ground.flow.now c.args.ground.settings.now (parts_of c.args.hub.now) c.args.number c.from_residual.result p.0
    c.in_err-kit.field-0.0 _ _ p.1 p.2 c.requires.may c.requires.live c.in_err-kit.ensures.err

pub returns-in-Ok-clause-turned : goal.returns-in-Ok-clause-turned
returns-in-Ok-clause-turned g c =
    begun_all g.W.Files.act c.args.ground.flow.now c.args.ground.settings.now (parts_of c.args.hub.now) (parts_of c.note_start.new.hub) c.args.number c.in-Some.job.now
    c.in_ok-kit.kit c.in-Ok.going _ _ _ _ c.in_ok-kit.ensures.ok c.in-Ok.ensures.ok c.note_start.ensures
