use Rattle.std.proofs.Common.{sym, subst}
use Rattle.smk_store.specs.Images.{seen}
use Rattle.smk_world.proofs.Devices.{looked_on}
use Rattle.smk_plan_look.specs.Seeing.{ArePlain}
use Rattle.smk_plan_look.proofs.Images.{all_plain}
use Rattle.smk_plan_look.proofs.looking.seen_of.Goals as goal

pub returns-in_err-sights-clause-looked : goal.returns-in_err-sights-clause-looked
returns-in_err-sights-clause-looked g c = looked_on _ c.in_err-sights.was c.from_residual-in_err-sights.ensures.1 c.sights_of.ensures.looked

pub returns-clause-told : goal.returns-clause-told
returns-clause-told g c = λ w at read.
    subst (ArePlain w (seen read w) c.args.jobs.now) (sym c.of.ensures)
    (all_plain read w ((g.met.W.Files.sound c.args.work.now).formed w at) ((g.met.W.Files.sound c.args.work.now).tree w at) c.args.jobs.now c.in_ok-paths.paths c.in_ok-sights.sights c.in_ok-paths.ensures c.in_ok-sights.ensures.paths (c.in_ok-sights.ensures.told w at))
