use Rattle.smk_plan_live.proofs.new.told_by.Goals as goal

pub returns-in-Ok-clause-told : goal.returns-in-Ok-clause-told
returns-in-Ok-clause-told c =
    let made = c.in-Ok.ensures in
    record { kept = c.requires.kept; targets = made.targets; now = made.now; standing = made.standing; ranked = made.ranked }
