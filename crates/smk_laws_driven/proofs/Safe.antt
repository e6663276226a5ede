-- A run in a sound folder is safe.
use Rattle.std.proofs.Common.{◌≡◌, true, List, [], ap, sym, subst, ◌∙◌, map, Option, Some, Result, Ok, Err, is_ok, true≢false}
use Rattle.std.proofs.lemmas.Option.{same_Some}
use Rattle.smk_world.specs.declared.event.Event.{Event}
use Rattle.smk_world.specs.World.{World, run}
use Rattle.smk_world.specs.Devices.{Device, Sunk}
use Rattle.smk_world.specs.Runs.{Follows}
use Rattle.smk_record.specs.Spelling.{ReadsRecords}
use Rattle.smk_store.specs.Soundness.{Outside, SoundWorld}
use Rattle.smk_store.specs.Trust.{SumsDiffer, Versions}
use Rattle.smk_laws_protocol.proofs.ProtocolHolds.{protocol_law}
use Rattle.smk_report.specs.declared.fault.Fault.{Fault}
use Rattle.smk_drive.specs.Moments.{Rules, greatest, seen}
use Rattle.smk_drive_course.specs.declared.ending.End.{End}
use Rattle.smk_drive_course.specs.Steps.{Deed}
use Rattle.smk_drive_course.specs.Driven.{HasDriven, IsRun}
use Rattle.smk_laws_moments.specs.Courses.{HasChildren, child_of}
use Rattle.smk_laws_moments.proofs.ChildrenOf.{at_start, children_are_of_stand, run_more}
use Rattle.smk_laws_turns.proofs.Greatest.{greatest_is_top}
use Rattle.smk_laws_turns.proofs.Laws.{run_follows, run_is_safe}
use Rattle.smk_laws_driven.specs.Driven.{DrivenIsSafe, IsSafeDrive}

-- the children that are left are those of the last stand
pub left_children :
    (rules : Rules) (told : Option End) (result : Result End Fault) (deeds : List Deed) (entry : World) (log : List Event)
    (r : IsRun rules told result deeds entry log) → entry.children ≡ [] → HasChildren r.last (run entry log)
left_children rules told result deeds entry log r none =
    ap (λ xs. (run entry xs).children) r.events
    ∙ (ap (λ (v : World). v.children) (run_more entry r.opening r.rest)
    ∙ children_are_of_stand rules entry r.start r.last (run entry r.opening) r.opening r.rest deeds r.steps
    (at_start rules told result deeds entry log r none))

-- no child is left where a run came to its end
pub none_left :
    (rules : Rules) (told : Option End) (result : Result End Fault) (deeds : List Deed) (entry : World) (log : List Event) →
    IsRun rules told result deeds entry log → entry.children ≡ [] → is_ok result ≡ true → (run entry log).children ≡ []
none_left rules told (Ok end) deeds entry log r none well =
    left_children rules told (Ok end) deeds entry log r none ∙ ap (λ gs. map child_of gs) (r.answer.1).idle
none_left rules told (Err f) deeds entry log r none well = absurd (true≢false (sym well))

module _ (o : Outside) (rules : Rules) (H : Versions) (result : Result End Fault) (w v : World) (old new : Device) (p q : Sunk) (at : old.world ≡ Some w)
    (end : new.world ≡ Some v) (reader : rules.read ≡ o.read) (reads : ReadsRecords o.read) (differ : SumsDiffer H) (sound : SoundWorld o w H)
    (h : HasDriven o.act rules result old new p q) where
  -- the events of the run, from that world to this one
  pub record HasLed : Type 0 where
    pub events : List Event
    pub follows : Follows o.act w events
    pub is : v ≡ run w events
    pub ran : IsRun rules h.told result h.deeds w events

  pub led : HasLed
  led =
      let d = h.ran.did v end in
      let here = same_Some d.0 w (sym d.1 ∙ at) in
      record {
        events = d.2.0;
        follows = subst (λ x. Follows o.act x d.2.0) here d.2.1;
        is = d.2.3 ∙ ap (λ x. run x d.2.0) here;
        ran = subst (λ x. IsRun rules h.told result h.deeds x d.2.0) here d.2.2;
      }

  -- where no child is left the folder is sound
  pub led_alone : (run w led.events).children ≡ [] → SoundWorld o (run w led.events) H
  led_alone =
      let r = run_follows o rules w H h.told result h.deeds led.events reader reads differ sound led.follows led.ran in
      (protocol_law o w H differ sound).at_exit (greatest rules (seen rules w)) led.events r.0 (greatest_is_top o rules w reader sound.formed) led.follows r.1

  pub safe : IsSafeDrive o H result w v
  safe =
      let l = led in
      let safe_run = run_is_safe o rules w H h.told result h.deeds l.events reader reads differ sound l.follows l.ran in
      let r = run_follows o rules w H h.told result h.deeds l.events reader reads differ sound l.follows l.ran in
      let top = greatest rules (seen rules w) in
      let is_top = greatest_is_top o rules w reader sound.formed in
      let alone : (run w l.events).children ≡ [] → SoundWorld o (run w l.events) H =
      (protocol_law o w H differ sound).at_exit top l.events r.0 is_top l.follows r.1 in
      record {
        events = l.events;
        follows = l.follows;
        is = l.is;
        by_protocol = (top, is_top, r);
        throughout = safe_run.throughout;
        at_end = alone;
        well = λ ok. subst (λ x. SoundWorld o x H) (sym l.is) (alone (none_left rules h.told result h.deeds w l.events l.ran sound.no_child ok));
      }

pub driven_is_safe : DrivenIsSafe
driven_is_safe o rules H result w v old new p q at end reader reads differ sound h = safe o rules H result w v old new p q at end reader reads differ sound h
