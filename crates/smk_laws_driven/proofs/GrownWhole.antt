-- How a whole run ends whose plans may grow.
use Rattle.std.proofs.Common.{◌≡◌, inl, inr, ℕ, List, [], refl, sym, subst, ◌∙◌, Option, Some, None, Ok, Err, is_none}
use Rattle.smk_world.specs.declared.event.Event.{Event}
use Rattle.smk_world.specs.World.{World, reading, run}
use Rattle.smk_world.specs.Runs.{Follows}
use Rattle.smk_world.specs.Trees.{Act, Each, Path}
use Rattle.smk_record.specs.declared.record.Record.{Record}
use Rattle.smk_record.specs.Spelling.{ReadsRecords}
use Rattle.smk_store.specs.Images as images
use Rattle.smk_store.specs.Soundness.{SoundWorld}
use Rattle.smk_store.specs.Trust.{SumsDiffer, Versions}
use Rattle.smk_chain.specs.Derive.{Listings}
use Rattle.smk_chain.specs.Mean.{setting_of}
use Rattle.smk_plan.specs.States.{nothing_done}
use Rattle.smk_laws_history.proofs.CurrentComplete.{seen_is_complete}
use Rattle.smk_laws_history.proofs.Valid.{records_valid}
use Rattle.smk_laws_complete.specs.Derived.{AllHaveValues, GathersAlone}
use Rattle.smk_laws_complete.proofs.Calm.{no_listing_is_right}
use Rattle.smk_laws_complete.proofs.Stops.{clean_targets_are_planned}
use Rattle.smk_report.specs.declared.fault.Fault.{Fault}
use Rattle.smk_laws_driven.specs.Completing.{LongRecord as TooLongRecord, NoSerial as NoneLeft}
use Rattle.smk_drive.specs.Moments.{Moment, Rules, progress_of, seen}
use Rattle.smk_drive.specs.Refusals.{ChainRefuses}
use Rattle.smk_drive_course.specs.Refusals.{LongRecord, MomentRefuses, NoSerial, PlansAreRefused}
use Rattle.smk_drive_course.specs.declared.ending.End.{End}
use Rattle.smk_drive_course.specs.Stands.{first_stand, moment_of}
use Rattle.smk_drive_course.specs.Steps.{Deed}
use Rattle.smk_drive_course.specs.Driven.{IsAnswer, IsRun}
use Rattle.smk_laws_moments.proofs.Fates.{first_fault_stays}
use Rattle.smk_laws_moments.specs.Staying.{IsDerivedStill, derived_by}
use Rattle.smk_laws_driven.proofs.Lasting.{answer_broken, start_clear}
use Rattle.smk_laws_driven.proofs.Listed.{start_well}
use Rattle.smk_laws_driven.proofs.Reaching as reaching
use Rattle.smk_laws_driven.proofs.Safe.{led}
use Rattle.smk_laws_driven.proofs.Succeeding.{driven_succeeds}
use Rattle.smk_laws_plan.specs.Signs.{HasOwnSigns}
use Rattle.smk_laws_driven.proofs.Opening.{opened_same}
use Rattle.smk_laws_driven.specs.Grown.{GrowingFaultsAreNamed, GrowingIsComplete, IsGrownNamed}
use Rattle.smk_laws_driven.proofs.Faulted.{answer_named, lost_breaks_off, same_fault}
use Rattle.smk_laws_driven.proofs.Grown as grown
use Rattle.smk_laws_driven.proofs.Growing as growing
use Rattle.smk_laws_driven.proofs.Growing.{standing}

module _ (act : Act) (rules : Rules) (entry : World) (H : Versions) (reads : ReadsRecords rules.read) (differ : SumsDiffer H)
    (sound : SoundWorld (record { read = rules.read; act = act }) entry H) (alone : GathersAlone rules.flow)
    (values : AllHaveValues (setting_of rules.flow act (λ j. is_none (rules.missing j)) (seen rules entry)) rules.settings.targets)
    (told : Option End) (f : Fault) (deeds : List Deed) (log : List Event)
    (r : IsRun rules told (Err f) deeds entry log) (follows : Follows act entry log) where
  abbrev Named : Fault → Type 0
  Named g = IsGrownNamed act rules entry g

  parts : Follows act entry r.opening × Follows act (run entry r.opening) r.rest
  parts = reaching.parts act rules entry H reads differ sound told (Err f) deeds log r follows

  -- ## The entry

  entry_refuses :
      (m : Moment) (g : Fault) → (ChainRefuses rules (seen rules m.world) (progress_of m.world m.begun) m.from g → Named g) → MomentRefuses rules entry m g →
      Named g
  entry_refuses m g chains (PlansAreRefused h rest chain) = chains chain
  entry_refuses m g chains (NoSerial e rest next full) = inl (inr NoneLeft)
  entry_refuses m g chains (LongRecord e out before after rest next fits split short long) = inl (inr (TooLongRecord _ _))

  chain_named : (g : Fault) → ChainRefuses rules (seen rules entry) nothing_done [] g → Named g
  chain_named g chain =
      inl
      (inl
      (clean_targets_are_planned rules act (seen rules entry) H nothing_done g alone (seen_is_complete rules.read entry sound.formed)
      (records_valid rules.read entry.names (λ q. reading (entry.nodes q))) differ sound.now refl values chain))

  start_named : (g : Fault) → r.start.halted ≡ Some g → Named g
  start_named g came =
      answer_named rules entry Named (λ h b. inl (inr b)) r.opened (first_stand r.plan) r.start entry [] g r.goes_by refl came
      (entry_refuses (moment_of (first_stand r.plan) entry []) g (chain_named g))

  -- ## From the start

  start_from : r.start.from ≡ []
  start_from = grown.answer_from act rules entry H reads differ sound alone values r.opened (first_stand r.plan) r.start entry [] r.goes_by

  start_base : (L : Listings) → L ≡ [] → growing.IsBase act rules entry H differ sound.formed alone values r.start L
  start_base L none =
      record {
        meant = subst (λ K. growing.AreMeantAt act rules entry H differ sound.formed alone values K) (sym none) (λ g files e. absurd (unlisted files e));
        right = λ image clear. subst (λ K. growing.AreRightAt act rules entry H differ sound.formed alone values K) (sym none)
            (no_listing_is_right (growing.S act rules entry H differ sound.formed alone values) rules.settings.targets);
        running =
            subst (Each (IsDerivedStill rules entry (standing r.start L)))
            (sym (reaching.start_kept act rules entry H reads differ sound told (Err f) deeds log r follows).runs) tt;
      }
    where
      unlisted : (files : List Path) → ◌≡◌ {A = Option (List Path)} None (Some files) → ⊥
      unlisted files e = cc

  later_named : r.start.halted ≡ None → r.last.halted ≡ Some f → Named f
  later_named unhalted came =
      grown.all_named act rules entry H reads differ sound alone values r.start r.last (run entry r.opening) r.opening r.rest deeds f r.steps refl
      (record {
        at = reaching.start_reached act rules entry H reads differ sound told (Err f) deeds log r follows;
        well = start_well act rules entry H reads differ sound told (Err f) deeds log r follows;
        clear = start_clear act rules entry told (Err f) deeds log r sound.formed parts.0 unhalted;
        base = start_base r.start.from start_from;
        signs =
            subst (λ image. HasOwnSigns (seen rules entry) image (derived_by rules entry r.start.from))
            (sym (opened_same act rules entry r.opened r.opening (first_stand r.plan) r.start entry [] r.opens parts.0 r.goes_by refl unhalted))
            (record { notes = λ q h. inl h; signs = λ q h. inl h });
      })
      unhalted (answer_broken act rules entry r.opened (first_stand r.plan) r.start entry [] r.goes_by refl) parts.1 came

  -- ## All of it

  came_named : r.last.halted ≡ Some f → Named f
  came_named came = go r.start.halted refl
    where
      go : (x : Option Fault) → r.start.halted ≡ x → Named f
      go None e = later_named e came
      go (Some g) e =
          subst Named
          (same_fault g f (sym (first_fault_stays rules entry r.start r.last (run entry r.opening) r.opening r.rest deeds r.steps g e).0 ∙ came))
          (start_named g e)

  pub run_named : Named f
  run_named = go told r.answer
    where
      go : (x : Option End) → IsAnswer rules (run entry log) log deeds r.last x (Err f) → Named f
      go None (inl came) = came_named came
      go None (inr (none, lost)) = inl (inr (lost_breaks_off f lost))
      go (Some end) (lost, well) = inl (inr (lost_breaks_off f lost))

pub growing_faults_are_named : GrowingFaultsAreNamed
growing_faults_are_named o rules H f w v old new p q at at_v reader reads differ sound alone values h =
    let to : record { read = rules.read; act = o.act } ≡ o = λ i. record { read = reader i; act = o.act } in
    let l = led o rules H (Err f) w v old new p q at at_v reader reads differ sound h in
    run_named o.act rules w H (subst ReadsRecords (sym reader) reads) differ (subst (λ x. SoundWorld x w H) (sym to) sound) alone
    (subst
    (λ (read : List ℕ → Option Record). AllHaveValues (setting_of rules.flow o.act (λ j. is_none (rules.missing j)) (images.seen read w)) rules.settings.targets)
    (sym reader) values) h.told f h.deeds l.events l.ran l.follows

pub growing_is_complete : GrowingIsComplete
growing_is_complete o rules H (Ok end) w v old new p q at at_v reader reads differ sound alone values never h =
    driven_succeeds o rules H end w v old new p q at at_v reader reads differ sound alone values never h
growing_is_complete o rules H (Err f) w v old new p q at at_v reader reads differ sound alone values never h =
    growing_faults_are_named o rules H f w v old new p q at at_v reader reads differ sound alone values h
