use Rattle.smk_world.proofs.Devices.{carried_as}
use Rattle.std.proofs.Common.{refl, subst}
use Rattle.std.specs.Prelude.{Contains, IfOk}
use Rattle.smk_job.proofs.Rooms.{begin_outputs}
use Rattle.smk_job.proofs.Launching.{may_start_told, not_launched, not_started, then_started, before_same}
use Rattle.smk_job.proofs.opening.launch.Goals as goal

pub prepare-requires : goal.prepare-requires
prepare-requires g c = record { unused = begin_outputs (g.W.Files.device c.args.work.now) c.args.recipe.now c.args.logs.now c.args.places.now c.requires.at c.requires.room }

pub start-requires : goal.start-requires
start-requires g c = record {
  may = may_start_told g.W.Files.act c.args.recipe.now c.args.logs.now _ _ c.requires.paths (g.met.W.Files.sound c.args.work.now).owned c.requires.room
      (carried_as (before_same c.args.recipe.now c.args.logs.now c.args.places.now c.args.owned.now c.requires.at c.requires.own) refl c.in_ok-prepare.ensures);
}

pub returns-in_err-prepare : goal.returns-in_err-prepare
returns-in_err-prepare g c = record {
  launched =
      not_launched g.W.Files.act c.args.recipe.now c.args.logs.now c.args.command.now c.from_residual.result _ _ c.from_residual.ensures.0
      (carried_as (before_same c.args.recipe.now c.args.logs.now c.args.places.now c.args.owned.now c.requires.at c.requires.own) refl c.in_err-prepare.ensures);
  fresh = not_started (λ number. ¬ (Contains (g.W.Files.device c.args.work.now).running number)) c.from_residual.result c.from_residual.ensures.0;
}

pub returns : goal.returns
returns g c = record {
  launched =
      then_started g.W.Files.act c.args.recipe.now c.args.logs.now c.args.command.now c.start.result _ _ _
      (carried_as (before_same c.args.recipe.now c.args.logs.now c.args.places.now c.args.owned.now c.requires.at c.requires.own) refl c.in_ok-prepare.ensures)
      c.start.ensures.called;
  fresh = subst (λ ns. IfOk c.start.result (λ number. ¬ (Contains ns number))) c.in_ok-prepare.ensures.acted.running c.start.ensures.fresh;
}
