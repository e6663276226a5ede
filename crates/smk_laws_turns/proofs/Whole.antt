-- A whole run follows the protocol, so it is safe.
use Rattle.std.proofs.Common.{◌≡◌, inl, inr, ℕ, List, [], ◌++◌, sym, subst, Option, Result}
use Rattle.smk_world.specs.declared.event.Event.{Event}
use Rattle.smk_world.specs.World.{World, run}
use Rattle.smk_world.specs.Runs.{Follows}
use Rattle.smk_record.specs.Spelling.{ReadsRecords}
use Rattle.smk_store.specs.Soundness.{Outside, SoundWorld}
use Rattle.smk_store.specs.Trust.{SumsDiffer, Versions}
use Rattle.smk_laws_protocol.specs.Protocol.{RunState, Runs}
use Rattle.smk_laws_protocol.specs.Midway.{HasSafeImages, at_entry}
use Rattle.smk_laws_protocol.proofs.ProtocolHolds.{protocol_law}
use Rattle.smk_report.specs.declared.fault.Fault.{Fault}
use Rattle.smk_safe.proofs.Done.{follows_split}
use Rattle.smk_safe.proofs.Safe.{front}
use Rattle.smk_drive.specs.Moments.{Rules, greatest, seen}
use Rattle.smk_drive_course.specs.declared.ending.End.{End}
use Rattle.smk_drive_course.specs.Stands.{first_stand}
use Rattle.smk_drive_course.specs.Steps.{Deed}
use Rattle.smk_drive_course.specs.Driven.{IsRun}
use Rattle.smk_laws_moments.proofs.ChildrenOf.{all_are_waited}
use Rattle.smk_laws_moments.proofs.Fates.{answer_kept}
use Rattle.smk_laws_moments.specs.Starting.{StartableMayBegin}
use Rattle.smk_laws_moments.specs.Staying.{DerivedArePlanned, MidwayKeepsSources, ReplanningStaysDerived, StartIsDerived, StepStaysDerived}
use Rattle.smk_laws_turns.specs.Following.{GuardsAreOutputs, IsGiven, IsReached, IsSafeRun}
use Rattle.smk_laws_turns.proofs.Greatest.{greatest_is_top}
use Rattle.smk_laws_turns.proofs.Opening.{opening_leads}
use Rattle.smk_laws_turns.proofs.StepsOn.{steps_follow}

module _ (starting : StartableMayBegin) (anew : ReplanningStaysDerived) (stays : StepStaysDerived) (derived_planned : DerivedArePlanned)
    (keeps_sources : MidwayKeepsSources) (starts_derived : StartIsDerived)
    (o : Outside) (rules : Rules) (entry : World) (H : Versions) (told : Option End) (result : Result End Fault) (deeds : List Deed) (log : List Event)
    (reader : rules.read ≡ o.read) (reads : ReadsRecords o.read) (differ : SumsDiffer H) (sound : SoundWorld o entry H) (follows : Follows o.act entry log)
    (is_run : IsRun rules told result deeds entry log) where
  abbrev top : ℕ
  top = greatest rules (seen rules entry)

  given : IsGiven o rules entry H top
  given = record { reader = reader; reads = reads; differ = differ; sound = sound; is_top = greatest_is_top o rules entry reader sound.formed }

  parts : Follows o.act entry is_run.opening × Follows o.act (run entry is_run.opening) is_run.rest
  parts = follows_split o.act entry is_run.opening is_run.rest (subst (Follows o.act entry) is_run.events follows)

  at_start : IsReached o rules entry top is_run.opening is_run.start
  at_start =
      let led = opening_leads o rules entry reader is_run.plan is_run.opened is_run.opening is_run.start is_run.opens parts.0 is_run.goes_by in
      record {
        state = led.end;
        come = record { follows = parts.0; runs = led.runs };
        is_state = led.is_state;
        derived = starts_derived rules entry entry is_run.plan is_run.opened [] is_run.start sound.formed is_run.planned is_run.goes_by;
        guards = subst (λ bs. GuardsAreOutputs (record is_run.start { begun = bs }))
            (sym (answer_kept rules entry is_run.opened (first_stand is_run.plan) is_run.start entry [] is_run.goes_by).begun) tt;
      }

  pub run_follows : (end : RunState) × Runs o (at_entry o top) entry log end
  run_follows =
      let on = steps_follow o rules entry H top given starting anew stays derived_planned keeps_sources is_run.start is_run.last is_run.opening is_run.rest
      deeds is_run.steps at_start parts.1 in
      ((on.0).state, subst (λ l. Runs o (at_entry o top) entry l (on.0).state) (sym is_run.events) (on.0).come.runs)

  safe_after : (events rest : List Event) → log ≡ events ++ rest → HasSafeImages o entry (run entry events) H
  safe_after events rest split =
      let r = run_follows in
      let part = front o (at_entry o top) r.0 entry events rest (subst (λ l. Runs o (at_entry o top) entry l r.0) split r.1) in
      (protocol_law o entry H differ sound).throughout top events part.0 given.is_top
      (follows_split o.act entry events rest (subst (Follows o.act entry) split follows)).0 part.1

  pub run_is_safe : IsSafeRun o entry H log
  run_is_safe =
      let r = run_follows in
      record {
        throughout = safe_after;
        at_end = elim (all_are_waited rules told result deeds entry log is_run sound.no_child) [
          | inl alone ↦ inl ((protocol_law o entry H differ sound).at_exit top log r.0 given.is_top follows r.1 alone)
          | inr failing ↦ inr failing
        ];
      }
