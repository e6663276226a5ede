use Rattle.std.proofs.Common.{ap, refl, subst, sym, true, ◌∙◌}
use Rattle.smk_drive_step.specs.Crews.{goings}
use Rattle.smk_laws_turns.specs.Hubs.{Parts}
use Rattle.smk_drive_hub.specs.Keeping.{parts_of}
use Rattle.smk_drive_hub.specs.Turned.{HasTurned}
use Rattle.smk_laws_closes.proofs.Asking.{lets_close, some_running, used_in_place}
use Rattle.smk_laws_closes.proofs.Given.{laws}
use Rattle.smk_laws_closes.proofs.Turned.{always_found, only_waited, turned, turned_grown, unwaited}
use Rattle.smk_drive_close.proofs.Halting.{is_halted, is_unhalted, taken_from}
use Rattle.smk_drive_close.proofs.closing.wait.Goals as goal

pub wait-requires : goal.wait-requires
wait-requires g c = record { runs = some_running c.args.hub.now.children.places.items _ c.requires.seated c.requires.runs }

pub returns-in_default-clause-turned : goal.returns-in_default-clause-turned
returns-in_default-clause-turned g c =
    let act = g.W.Files.act in
    let h = parts_of c.args.hub.now in
    subst
    (λ (k : Parts).
    HasTurned act c.args.ground.flow.now c.args.ground.settings.now h k true (g.W.Files.device c.args.work.now) (g.W.Files.device c.wait.new.self)
    (g.O.Sink.sunk c.args.out.now) (g.O.Sink.sunk c.args.out.now))
    (sym c.set.ensures)
    (unwaited act c.args.ground.flow.now c.args.ground.settings.now h c.in_default.field-0 _ _ _ c.requires.live c.requires.runs c.requires.none_left
    c.in_default.ensures.called)

pub returns-in_default-take-clause-turned : goal.returns-in_default-take-clause-turned
returns-in_default-take-clause-turned g c =
    always_found c.args.hub.now.children.places.items _ c.in-Ok.ended.number c.requires.seated c.in-Ok.ensures.ran (c.in_default-take.ensures.none refl).1

pub returns-in_default-take-clause-less : goal.returns-in_default-take-clause-less
returns-in_default-take-clause-less g c =
    always_found c.args.hub.now.children.places.items _ c.in-Ok.ended.number c.requires.seated c.in-Ok.ensures.ran (c.in_default-take.ensures.none refl).1

pub give-requires : goal.give-requires
give-requires g c =
    used_in_place c.args.ground.flow.now c.args.ground.settings.now (parts_of c.args.hub.now) c.in-Some.child c.take.new.self.places.items c.requires.steady
    c.in-Some.ensures.some.1

pub returns-then-only_waits-clause-turned : goal.returns-then-only_waits-clause-turned
returns-then-only_waits-clause-turned g c =
    only_waited c.args.ground.flow.now c.args.ground.settings.now (parts_of c.args.hub.now) c.in-Some.child c.take.new.self.places.items c.give.new.self
    c.in-Some.ensures.some.1 c.give.ensures g.W.Files.act c.in-Ok.ended _ _ _ c.requires.live c.requires.steady (sym c.in-Some.ensures.some.0)
    c.in-Ok.ensures.called c.in-Ok.ensures.other_status (sym c.only_waits.ensures ∙ c.if-only_waits.true)

pub close-requires-clause-room : goal.close-requires-clause-room
close-requires-clause-room g c =
    lets_close g.W.Files.act c.args.ground.flow.now c.args.ground.settings.now (parts_of c.args.hub.now) c.in-Some.child c.take.new.self.places.items
    c.in-Ok.ended _ _ c.requires.somewhere c.in-Some.ensures.some.1 (sym c.in-Some.ensures.some.0) c.in-Ok.ensures.called

pub returns-then-only_waits-clause-less : goal.returns-then-only_waits-clause-less
returns-then-only_waits-clause-less g c = λ waited.
    (c.in-Some.child, taken_from c.in-Some.child c.args.hub.now.children.places.items c.take.new.self.places.items _ c.in-Some.ensures.some.1 refl)

pub returns-then-not-is_none-clause-turned : goal.returns-then-not-is_none-clause-turned
returns-then-not-is_none-clause-turned g c =
    turned c.args.ground.flow.now c.args.ground.settings.now (parts_of c.args.hub.now) c.in-Some.child c.take.new.self.places.items c.give.new.self
    c.in-Some.ensures.some.1 c.give.ensures laws g.W.Files.act c.in-Ok.ended _ _ (g.met.W.Files.sound c.args.work.now).owned c.requires.steady
    c.requires.none_left (sym c.in-Some.ensures.some.0) c.in-Ok.ensures.called c.in-Ok.ensures.other_status
    (sym c.only_waits.ensures ∙ c.if-only_waits.false) _ _ _ _ c.close.ensures.followed
    (is_halted c.close.new.hub.halt.fault (sym c.is_none.ensures ∙ c.if-not-is_none.true))

pub returns-then-not-is_none-clause-less : goal.returns-then-not-is_none-clause-less
returns-then-not-is_none-clause-less g c = λ waited. (
  c.in-Some.child,
  taken_from c.in-Some.child c.args.hub.now.children.places.items c.take.new.self.places.items _ c.in-Some.ensures.some.1
      (ap goings c.close.ensures.followed.places),
)

pub grow-requires-clause-live : goal.grow-requires-clause-live
grow-requires-clause-live g c = λ κs within. c.close.ensures.followed.plan.alive

pub grow-requires-clause-commands : goal.grow-requires-clause-commands
grow-requires-clause-commands g c = λ κs within.
    c.close.ensures.commands (is_unhalted c.close.new.hub.halt.fault (sym c.is_none.ensures ∙ c.if-not-is_none.false))

pub returns-clause-turned : goal.returns-clause-turned
returns-clause-turned g c =
    turned_grown c.args.ground.flow.now c.args.ground.settings.now (parts_of c.args.hub.now) c.in-Some.child c.take.new.self.places.items c.give.new.self
    c.in-Some.ensures.some.1 c.give.ensures laws g.W.Files.act c.in-Ok.ended _ _ (g.met.W.Files.sound c.args.work.now).owned c.requires.steady
    c.requires.none_left (sym c.in-Some.ensures.some.0) c.in-Ok.ensures.called c.in-Ok.ensures.other_status
    (sym c.only_waits.ensures ∙ c.if-only_waits.false) _ _ _ _ _ _ c.close.ensures.followed
    (is_unhalted c.close.new.hub.halt.fault (sym c.is_none.ensures ∙ c.if-not-is_none.false)) c.grow.ensures

pub returns-clause-less : goal.returns-clause-less
returns-clause-less g c = λ waited. (
  c.in-Some.child,
  taken_from c.in-Some.child c.args.hub.now.children.places.items c.take.new.self.places.items _ c.in-Some.ensures.some.1
      (c.grow.ensures.goings ∙ ap goings c.close.ensures.followed.places),
)
