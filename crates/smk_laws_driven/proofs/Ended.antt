-- What a run leaves that came to its end.
use Rattle.std.proofs.Common.{◌≡◌, refl, sym, subst, None, Some, Ok, List, ◌∙◌, Option, Result, Err}
use Rattle.std.proofs.lemmas.Option.{none-some, same_Some}
use Rattle.smk_world.specs.declared.event.Event.{Event}
use Rattle.smk_report.specs.declared.fault.Fault.{Fault}
use Rattle.smk_drive_course.specs.Stands.{Stand}
use Rattle.smk_drive_course.specs.Steps.{Deed}
use Rattle.smk_world.specs.World.{World, run}
use Rattle.smk_world.specs.Devices.{Device, Sunk}
use Rattle.smk_record.specs.Spelling.{ReadsRecords}
use Rattle.smk_store.specs.Soundness.{Outside, SoundWorld}
use Rattle.smk_store.specs.Trust.{SumsDiffer, Versions}
use Rattle.smk_drive.specs.Moments.{Rules}
use Rattle.smk_drive_course.specs.declared.ending.End.{End}
use Rattle.smk_pick.specs.declared.settings.Force.TheVariants.{No}
use Rattle.smk_drive_course.specs.Driven.{HasDriven, HasEndedWell, IsAnswer, IsRun}
use Rattle.smk_laws_driven.specs.Ended.{AllAreClean, DrivenIsClean, DrivenLeavesNone, DrivenTells, DrivenTellsAll, HasToldWell, LeavesNone}
use Rattle.smk_laws_driven.proofs.Ending as ending
use Rattle.smk_laws_driven.proofs.Leaving as leaving
use Rattle.smk_laws_driven.proofs.Safe.{HasLed, led, led_alone, none_left, safe}

module _ (o : Outside) (rules : Rules) (H : Versions) (end : End) (w v : World) (old new : Device) (p q : Sunk) (at : old.world ≡ Some w)
    (at_v : new.world ≡ Some v) (reader : rules.read ≡ o.read) (reads : ReadsRecords o.read) (differ : SumsDiffer H) (sound : SoundWorld o w H)
    (h : HasDriven o.act rules (Ok end) old new p q) where
  abbrev l : HasLed o rules H (Ok end) w v old new p q at at_v reader reads differ sound h
  l = led o rules H (Ok end) w v old new p q at at_v reader reads differ sound h

  at_end : SoundWorld o (run w l.events) H
  at_end = subst (λ x. SoundWorld o x H) l.is ((safe o rules H (Ok end) w v old new p q at at_v reader reads differ sound h).well refl)

  tells : HasToldWell o rules w v end
  tells =
      subst (λ x. HasToldWell o rules w x end) (sym l.is)
      (ending.told_well o rules H w h.told end h.deeds l.events reader reads differ sound l.follows l.ran at_end)

  clean : end.first ≡ None → AllAreClean o rules w v end
  clean none =
      subst (λ x. AllAreClean o rules w x end) (sym l.is)
      (ending.all_clean o rules H w h.told end h.deeds l.events reader reads differ sound l.follows l.ran at_end none)

  leaves : rules.settings.force ≡ No → end.first ≡ None → LeavesNone o rules v
  leaves free none =
      subst (λ x. LeavesNone o rules x) (sym l.is)
      (leaving.leaves_none o rules H w h.told end h.deeds l.events reader reads differ sound l.follows l.ran at_end free none)

-- ## Whatever came as it was told

-- what came to be told at the end of a run is told of one that ended well
told_end :
    (rules : Rules) (v : World) (log : List Event) (deeds : List Deed) (s : Stand) (told : Option End) (result : Result End Fault) (end : End) → told ≡ Some end →
    IsAnswer rules v log deeds s told result → HasEndedWell rules v log deeds s end
told_end rules v log deeds s told (Ok e) end is answer =
    subst (HasEndedWell rules v log deeds s) (same_Some e end (sym answer.0 ∙ is)) answer.1
told_end rules v log deeds s None (Err f) end is answer = absurd (none-some end is)
told_end rules v log deeds s (Some e) (Err f) end is answer = subst (HasEndedWell rules v log deeds s) (same_Some e end is) answer.1

-- so the run is one that might have ended well
as_ended :
    (rules : Rules) (w : World) (log : List Event) (deeds : List Deed) (told : Option End) (result : Result End Fault) (end : End) → told ≡ Some end →
    IsRun rules told result deeds w log → IsRun rules told (Ok end) deeds w log
as_ended rules w log deeds told result end is r =
    record {
      opening = r.opening;
      rest = r.rest;
      opened = r.opened;
      plan = r.plan;
      start = r.start;
      last = r.last;
      events = r.events;
      opens = r.opens;
      planned = r.planned;
      goes_by = r.goes_by;
      steps = r.steps;
      waited = r.waited;
      answer = (is, told_end rules (run w log) log deeds r.last told result end is r.answer);
    }

pub driven_tells_all : DrivenTellsAll
driven_tells_all o rules H result end w v old new p q at at_v reader reads differ sound h is =
    let l = led o rules H result w v old new p q at at_v reader reads differ sound h in
    let alone = led_alone o rules H result w v old new p q at at_v reader reads differ sound h in
    let ran = as_ended rules w l.events h.deeds h.told result end is l.ran in
    let idle = none_left rules h.told (Ok end) h.deeds w l.events ran sound.no_child refl in
    subst (λ x. HasToldWell o rules w x end) (sym l.is)
    (ending.told_well o rules H w h.told end h.deeds l.events reader reads differ sound l.follows ran (alone idle))

pub driven_tells : DrivenTells
driven_tells o rules H end w v old new p q at at_v reader reads differ sound h =
    tells o rules H end w v old new p q at at_v reader reads differ sound h

pub driven_is_clean : DrivenIsClean
driven_is_clean o rules H end w v old new p q at at_v reader reads differ sound h =
    clean o rules H end w v old new p q at at_v reader reads differ sound h

pub driven_leaves_none : DrivenLeavesNone
driven_leaves_none o rules H end w v old new p q at at_v reader reads differ sound h =
    leaves o rules H end w v old new p q at at_v reader reads differ sound h
