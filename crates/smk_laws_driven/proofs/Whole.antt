-- How a whole run ends.
use Rattle.std.proofs.Common.{◌≡◌, inl, inr, ℕ, List, [], refl, sym, ap, subst, ◌∙◌, Option, Some, None, Err, is_none}
use Rattle.smk_world.specs.declared.event.Event.{Event}
use Rattle.smk_world.specs.World.{World, reading, run}
use Rattle.smk_world.specs.Runs.{Follows}
use Rattle.smk_world.specs.Trees.{Act, Each}
use Rattle.smk_record.specs.declared.record.Record.{Record}
use Rattle.smk_record.specs.Spelling.{ReadsRecords}
use Rattle.smk_store.specs.Images as images
use Rattle.smk_store.specs.Soundness.{Outside, SoundWorld}
use Rattle.smk_store.specs.Trust.{SumsDiffer, Versions}
use Rattle.smk_chain.specs.Derive.{Derived, derivation}
use Rattle.smk_chain.specs.Mean.{setting_of}
use Rattle.smk_plan.specs.States.{IsPlan, LastPlan, Plan, nothing_done}
use Rattle.smk_laws_plan.proofs.PlanOne.{derived}
use Rattle.smk_laws_history.proofs.CurrentComplete.{seen_is_complete}
use Rattle.smk_laws_history.proofs.CurrentLaw.{last_is}
use Rattle.smk_laws_history.proofs.Valid.{records_valid}
use Rattle.smk_laws_complete.specs.Derived.{AllHaveValues, GathersAlone}
use Rattle.smk_laws_complete.proofs.Stops.{clean_targets_are_planned}
use Rattle.smk_laws_protocol.specs.Midway.{IsTop}
use Rattle.smk_safe.proofs.Done.{follows_split}
use Rattle.smk_report.specs.declared.fault.Fault.{Fault}
use Rattle.smk_safe.specs.Planned.{IsPlain}
use Rattle.smk_laws_driven.specs.Completing.{LongRecord as TooLongRecord, NoSerial as NoneLeft}
use Rattle.smk_drive.specs.Moments.{IsInForce, Moment, Rules, greatest, progress_of, seen}
use Rattle.smk_drive.specs.Refusals.{ChainRefuses}
use Rattle.smk_drive_course.specs.Refusals.{LongRecord, MomentRefuses, NoSerial, PlansAreRefused}
use Rattle.smk_drive_course.specs.declared.ending.End.{End}
use Rattle.smk_drive_course.specs.Stands.{IsClear, first_stand, moment_of}
use Rattle.smk_drive_course.specs.Steps.{Deed}
use Rattle.smk_drive_course.specs.Driven.{IsAnswer, IsRun}
use Rattle.smk_laws_moments.proofs.Fates.{IsKept, answer_kept, first_fault_stays}
use Rattle.smk_laws_plan.specs.Signs.{HasOwnSigns}
use Rattle.smk_laws_moments.specs.Staying.{derived_by}
use Rattle.smk_laws_moments.proofs.StandsOn.{start_is_derived}
use Rattle.smk_laws_turns.specs.Following.{GuardsAreOutputs, IsReached}
use Rattle.smk_laws_turns.proofs.Greatest.{greatest_is_top}
use Rattle.smk_laws_turns.proofs.Opening.{opening_leads}
use Rattle.smk_laws_driven.specs.Ended.{PlansArePlain}
use Rattle.smk_laws_driven.proofs.Lasting.{answer_clear}
use Rattle.smk_laws_driven.proofs.Leaving.{clear_plan}
use Rattle.smk_laws_driven.proofs.Safe.{led}
use Rattle.smk_laws_driven.proofs.Unlisted.{HasNoLists, lists_stay, start_lists}
use Rattle.smk_laws_driven.specs.Named.{DrivenFaultsAreNamed, IsNamed}
use Rattle.smk_laws_driven.proofs.Faulted.{answer_named, lost_breaks_off, same_fault}
use Rattle.smk_laws_driven.proofs.Opening.{opened_same}
use Rattle.smk_laws_driven.proofs.Onward.{all_named}

module _ (act : Act) (rules : Rules) (entry : World) (H : Versions) (reads : ReadsRecords rules.read) (differ : SumsDiffer H)
    (sound : SoundWorld (record { read = rules.read; act = act }) entry H) (plain : PlansArePlain rules) (alone : GathersAlone rules.flow)
    (values : AllHaveValues (setting_of rules.flow act (λ j. is_none (rules.missing j)) (seen rules entry)) rules.settings.targets)
    (told : Option End) (f : Fault) (deeds : List Deed) (log : List Event)
    (r : IsRun rules told (Err f) deeds entry log) (follows : Follows act entry log) where
  abbrev o : Outside
  o = record { read = rules.read; act = act }

  abbrev top : ℕ
  top = greatest rules (seen rules entry)

  is_top : IsTop o entry top
  is_top = greatest_is_top o rules entry refl sound.formed

  parts : Follows act entry r.opening × Follows act (run entry r.opening) r.rest
  parts = follows_split act entry r.opening r.rest (subst (Follows act entry) r.events follows)

  -- ## The entry

  entry_refuses :
      (m : Moment) (g : Fault) → (ChainRefuses rules (seen rules m.world) (progress_of m.world m.begun) m.from g → IsNamed rules entry g) →
      MomentRefuses rules entry m g → IsNamed rules entry g
  entry_refuses m g chains (PlansAreRefused h rest chain) = chains chain
  entry_refuses m g chains (NoSerial e rest next full) = inr NoneLeft
  entry_refuses m g chains (LongRecord e out before after rest next fits split short long) = inr (TooLongRecord _ _)

  chain_named : (g : Fault) → ChainRefuses rules (seen rules entry) nothing_done [] g → IsNamed rules entry g
  chain_named g chain =
      inl
      (clean_targets_are_planned rules act (seen rules entry) H nothing_done g alone (seen_is_complete rules.read entry sound.formed)
      (records_valid rules.read entry.names (λ q. reading (entry.nodes q))) differ sound.now refl values chain)

  start_named : (g : Fault) → r.start.halted ≡ Some g → IsNamed rules entry g
  start_named g came =
      answer_named rules entry (IsNamed rules entry) (λ h b. inr b) r.opened (first_stand r.plan) r.start entry [] g r.goes_by refl came
      (entry_refuses (moment_of (first_stand r.plan) entry []) g (chain_named g))

  -- ## From the start

  start_kept : IsKept (first_stand r.plan) r.start
  start_kept = answer_kept rules entry r.opened (first_stand r.plan) r.start entry [] r.goes_by

  start_reached : IsReached o rules entry top r.opening r.start
  start_reached =
      let led = opening_leads o rules entry refl r.plan r.opened r.opening r.start r.opens parts.0 r.goes_by in
      record {
        state = led.end;
        come = record { follows = parts.0; runs = led.runs };
        is_state = led.is_state;
        derived = start_is_derived rules entry entry r.plan r.opened [] r.start sound.formed r.planned r.goes_by;
        guards = subst (λ bs. GuardsAreOutputs (record r.start { begun = bs })) (sym start_kept.begun) tt;
      }

  start_no_lists : HasNoLists r.start
  start_no_lists = start_lists rules plain entry told (Err f) deeds log r sound.formed

  -- a plan is in force at the entry, without a listing
  module _ (unhalted : r.start.halted ≡ None) where
    clear : IsClear rules r.start entry []
    clear = answer_clear act rules entry r.opened (first_stand r.plan) r.start entry [] r.goes_by unhalted

    abbrev plan : Plan
    plan = (clear_plan rules r.start entry [] sound.formed clear).0

    last : LastPlan rules.flow (seen rules entry) rules.settings (progress_of entry r.start.begun) r.start.from plan
    last = subst (IsInForce rules entry r.start.begun r.start.from) (clear_plan rules r.start entry [] sound.formed clear).1 clear.planned

    is_plan : IsPlan rules.flow (seen rules entry) rules.settings (progress_of entry r.start.begun) plan
    is_plan = last_is rules.flow (seen rules entry) rules.settings (progress_of entry r.start.begun) r.start.from plan last

    no_lists : plan.lists ≡ []
    no_lists =
        lists_stay rules plain (seen rules entry) (progress_of entry r.start.begun) r.start.from plan (seen_is_complete rules.read entry sound.formed) last
        ∙ start_no_lists.before

    derives_plan : derivation rules.flow (seen rules entry) [] rules.settings.targets ≡ Derived plan.jobs
    derives_plan = subst (λ L. derivation rules.flow (seen rules entry) L rules.settings.targets ≡ Derived plan.jobs) no_lists is_plan.derived

    its_jobs : derived_by rules entry [] ≡ plan.jobs
    its_jobs = (derived rules.flow (seen rules entry) [] rules.settings.targets plan.jobs (seen_is_complete rules.read entry sound.formed) derives_plan).1

    derives : derivation rules.flow (seen rules entry) [] rules.settings.targets ≡ Derived (derived_by rules entry [])
    derives = derives_plan ∙ ap Derived (sym its_jobs)

    plainly : Each IsPlain (derived_by rules entry [])
    plainly =
        subst (Each IsPlain) (sym its_jobs)
        (plain (seen rules entry) (progress_of entry r.start.begun) plan (seen_is_complete rules.read entry sound.formed) is_plan)

    -- signs are those of the entry
    start_ours : HasOwnSigns (seen rules entry) (seen rules (run entry r.opening)) (derived_by rules entry [])
    start_ours =
        subst (λ image. HasOwnSigns (seen rules entry) image (derived_by rules entry []))
        (sym (opened_same act rules entry r.opened r.opening (first_stand r.plan) r.start entry [] r.opens parts.0 r.goes_by refl unhalted))
        (record { notes = λ q h. inl h; signs = λ q h. inl h })

    later_named : r.last.halted ≡ Some f → IsNamed rules entry f
    later_named came =
        all_named act rules entry H top reads differ sound is_top plain alone values plainly derives r.start r.last (run entry r.opening) r.opening r.rest
        deeds f r.steps refl (record { at = start_reached; lists = start_no_lists; signs = start_ours }) unhalted parts.1 came

  -- ## All of it

  came_named : r.last.halted ≡ Some f → IsNamed rules entry f
  came_named came = go r.start.halted refl
    where
      go : (x : Option Fault) → r.start.halted ≡ x → IsNamed rules entry f
      go None e = later_named e came
      go (Some g) e =
          subst (IsNamed rules entry)
          (same_fault g f (sym (first_fault_stays rules entry r.start r.last (run entry r.opening) r.opening r.rest deeds r.steps g e).0 ∙ came))
          (start_named g e)

  pub run_named : IsNamed rules entry f
  run_named = go told r.answer
    where
      go : (x : Option End) → IsAnswer rules (run entry log) log deeds r.last x (Err f) → IsNamed rules entry f
      go None (inl came) = came_named came
      go None (inr (none, lost)) = inr (lost_breaks_off f lost)
      go (Some end) (lost, well) = inr (lost_breaks_off f lost)

pub driven_faults_are_named : DrivenFaultsAreNamed
driven_faults_are_named o rules H f w v old new p q at at_v reader reads differ sound plain alone values h =
    let to : record { read = rules.read; act = o.act } ≡ o = λ i. record { read = reader i; act = o.act } in
    let l = led o rules H (Err f) w v old new p q at at_v reader reads differ sound h in
    run_named o.act rules w H (subst ReadsRecords (sym reader) reads) differ (subst (λ x. SoundWorld x w H) (sym to) sound) plain alone
    (subst
    (λ (read : List ℕ → Option Record). AllHaveValues (setting_of rules.flow o.act (λ j. is_none (rules.missing j)) (images.seen read w)) rules.settings.targets)
    (sym reader) values) h.told f h.deeds l.events l.ran l.follows
