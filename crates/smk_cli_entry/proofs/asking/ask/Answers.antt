use Rattle.std.proofs.Common.{inl, sym}
use Rattle.smk_world.proofs.Devices.{looked_as}
use Rattle.smk_cli_entry.proofs.Joins.{asked_both}
use Rattle.smk_cli_entry.proofs.asking.ask.Goals as goal

pub returns-in-Err-clause-told : goal.returns-in-Err-clause-told
returns-in-Err-clause-told g c = λ w here told. inl (c.in-Err.ensures.told w here told)

pub returns-in-Ok-clause-looked : goal.returns-in-Ok-clause-looked
returns-in-Ok-clause-looked g c = looked_as (sym c.asked_in.ensures.no_device) c.in-Ok.ensures.looked

pub returns-in-Ok-clause-told : goal.returns-in-Ok-clause-told
returns-in-Ok-clause-told g c = λ w here.
    asked_both c.args.words.now w.nodes c.in-Ok.reading c.asked_in.result (c.in-Ok.ensures.told w here) c.asked_in.ensures.is
