use Rattle.smk_drive_close.proofs.knowing.outcome.Goals as goal

pub returns-in-Ok-clause-told : goal.returns-in-Ok-clause-told
returns-in-Ok-clause-told g c = λ w told.
    record { owners = (g.met.W.Files.sound c.args.work.now).owned w told; told = λ free read reads. c.in-Ok.ensures.told w told free read reads }
