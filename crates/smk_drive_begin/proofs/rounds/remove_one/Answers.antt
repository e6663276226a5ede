use Rattle.std.proofs.Common.{sym, subst, List}
use Rattle.smk_world.specs.Calls.{IsUnused}
use Rattle.smk_world.specs.Devices.{WhereTold}
use Rattle.smk_world.specs.Trees.{Path}
use Rattle.smk_drive_hub.specs.Keeping.{parts_of}
use Rattle.smk_drive_begin.specs.declared.rounds.Round.TheVariants.{Broken, Halted}
use Rattle.smk_drive_begin.specs.Rounds.{HasRound}
use Rattle.smk_report.specs.declared.fault.Fault.TheVariants as fault
use Rattle.smk_drive_begin.proofs.Answering.{called_at}
use Rattle.smk_drive_begin.proofs.Calls.{may_remove, round_breaks, round_lacks, round_removes}
use Rattle.smk_drive_begin.proofs.rounds.remove_one.Goals as goal

pub remove-requires : goal.remove-requires
remove-requires g c =
    record {
      unused =
          subst (λ (q : Path). WhereTold (g.W.Files.device c.args.work.now) (λ w. IsUnused w q)) (sym c.in-Ok.ensures.place)
          (may_remove c.args.flow.now c.args.settings.now (parts_of c.args.hub.now) (g.W.Files.device c.args.work.now) c.args.path.now c.requires.somewhere
          c.requires.unhalted c.requires.found);
    }

pub returns-in-Ok-remove : goal.returns-in-Ok-remove
returns-in-Ok-remove g c =
    let act = g.W.Files.act in
    let flow = c.args.flow.now in
    let settings = c.args.settings.now in
    let h = parts_of c.args.hub.now in
    let k = parts_of c.tell.new.hub in
    let old = g.W.Files.device c.args.work.now in
    let new = g.W.Files.device c.remove.new.self in
    subst (λ (are : List Path). HasRound act flow settings h k c.args.removed.now are c.tell.result old new) (sym c.in-Ok.ensures.ok)
    (round_removes act flow settings h old c.args.removed.now c.requires.live k new c.args.path.now c.tell.result c.requires.found
    (called_at act old new c.args.path.now c.in-Ok.place _ _ c.remove.ensures c.in-Ok.ensures.place c.in-Ok-remove.is) c.tell.ensures.only c.tell.ensures.told)

pub returns-in-Ok : goal.returns-in-Ok
returns-in-Ok g c =
    let act = g.W.Files.act in
    let flow = c.args.flow.now in
    let settings = c.args.settings.now in
    let h = parts_of c.args.hub.now in
    let old = g.W.Files.device c.args.work.now in
    let new = g.W.Files.device c.remove.new.self in
    subst (λ (are : List Path). HasRound act flow settings h h c.args.removed.now are Broken old new) (sym c.in-Ok.ensures.ok)
    (round_breaks act flow settings h old c.args.removed.now c.requires.live new c.args.path.now c.in-Err-remove.field-0 c.requires.found
    (called_at act old new c.args.path.now c.in-Ok.place _ _ c.remove.ensures c.in-Ok.ensures.place c.in-Err-remove.is))

pub returns : goal.returns
returns g c =
    let h = parts_of c.args.hub.now in
    let d = g.W.Files.device c.args.work.now in
    subst (λ (are : List Path). HasRound g.W.Files.act c.args.flow.now c.args.settings.now h h c.args.removed.now are (Halted fault.OutOfMemory) d d)
    (sym c.in-Err.ensures.err) (round_lacks g.W.Files.act c.args.flow.now c.args.settings.now h d c.args.removed.now c.requires.live)
