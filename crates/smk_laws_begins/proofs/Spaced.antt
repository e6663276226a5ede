-- Running children leave room for the job that is picked.
use Rattle.std.proofs.Common.{sym, subst}
use Rattle.smk_pick.specs.declared.settings.Settings.{Settings}
use Rattle.smk_laws_turns.proofs.RoomToBegin.{room_to_begin}
use Rattle.smk_laws_begins.specs.Begins.{MayTake, RoomIsLeft}
use Rattle.smk_laws_begins.proofs.ToBegin.{taken}

pub room_left : RoomIsLeft
room_left flow settings h number j w may is some =
    let may1 = subst (λ (x : Settings). MayTake x h number) (sym some.by.settings_are) may in
    let x = taken some.rules some.entry h some.stand w some.before some.deeds number some.at may1 j is in
    room_to_begin some.rules some.entry h some.stand w some.before some.deeds (j, x.state) some.at x.next
