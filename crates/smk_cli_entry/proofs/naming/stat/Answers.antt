use Rattle.std.proofs.Common.{Ok, ap, true≢false}
use Rattle.smk_world.proofs.Devices.{looked_stat}
use Rattle.smk_cli_entry.proofs.Stats.{stat_seen}
use Rattle.smk_cli_entry.proofs.naming.stat.Goals as goal

pub returns-in-Ok-clause-looked : goal.returns-in-Ok-clause-looked
returns-in-Ok-clause-looked g c = looked_stat c.in-Ok.ensures

pub returns-in-Ok-clause-told : goal.returns-in-Ok-clause-told
returns-in-Ok-clause-told g c = λ w here.
    ap Ok (stat_seen c.args.place.now c.in-Ok.stat (g.met.W.Files.sound c.args.work.now) c.requires.none_runs c.in-Ok.ensures w here)

pub returns-in-Err-clause-looked : goal.returns-in-Err-clause-looked
returns-in-Err-clause-looked g c = looked_stat c.in-Err.ensures
