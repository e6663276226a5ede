-- What a call tells where each target has a clean value.
use native.Mathlib.Omega.{arith}
use Rattle.std.proofs.Common.{◌≡◌, ◌⊎◌, ◌≤◌, inl, inr, ℕ, Bool, true, false, List, [], ◌++◌, ap, refl, sym, subst, ◌∙◌, Option, Some, Ok, Err, Result, is_none}
use Rattle.std.specs.Prelude.{IsSome, is_err}
use Rattle.smk_base.specs.Place.{lock_place}
use Rattle.smk_world.specs.declared.event.Failed.{Failed}
use Rattle.smk_world.specs.declared.event.NodeState.{NodeState}
use Rattle.smk_world.specs.World.{World, reading}
use Rattle.smk_world.specs.Calls.{Rose}
use Rattle.smk_world.specs.Devices.{Device, Sunk, HasActed}
use Rattle.smk_world.specs.Trees.{Path, Act}
use Rattle.smk_world.proofs.Devices.{looks_nodes}
use Rattle.smk_record.specs.declared.record.Record.{Record}
use Rattle.smk_store.specs.Images.{Image, seen}
use Rattle.smk_store.specs.Soundness.{Outside, SoundWorld}
use Rattle.smk_store.specs.Trust.{Versions}
use Rattle.smk_record.specs.Spelling.{ReadsRecords}
use Rattle.smk_chain.specs.Derive.{Listings, Refusal, Refused as Refuse, derivation}
use Rattle.smk_chain.specs.Mean.{setting_of}
use Rattle.smk_plan.specs.States.{Progress, new_listings, nothing_done}
use Rattle.smk_drive.specs.Moments.{Rules}
use Rattle.smk_drive.specs.Refusals.{ChainRefuses, ComesTo, DerivationRefuses, Here, IsFault, NextRefuses, Onward}
use Rattle.smk_laws_complete.specs.Planned.{AboveLimit, Clashing, Incomplete, MayStop, Protected, TooLong, TooMany}
use Rattle.smk_plan_preview.specs.Previewing.{rules_for}
use Rattle.smk_format.specs.Commands.{missing}
use Rattle.smk_keep_lock.specs.Locking.{HasReleased}
use Rattle.smk_run.proofs.Rising.{rose_earlier}
use Rattle.smk_words_reading.specs.declared.asked.RunWords.{RunWords}
use Rattle.smk_report.specs.declared.fault.Fault.{Fault}
use Rattle.smk_report.specs.declared.fault.Fault.TheVariants as fault
use Rattle.smk_cli_entry.specs.declared.asking.Asked.{Asked}
use Rattle.smk_cli_entry.specs.Entry.{IsAskedIn}
use Rattle.smk_cli_calls.specs.Serving.{HasListed, Went, settings_of}
use Rattle.smk_cli_calls.specs.Serving.Went.{Drove, Refused, Stopped, Worked}
use Rattle.smk_cli_calls.specs.Serving.HasListed.{Listed, NotListed}
use Rattle.smk_cli_calls.specs.Ends.{fault_of}
use Rattle.smk_cli_calls.specs.Lines.{IsOutcome}
use Rattle.smk_cli_calls.specs.Locking.{HasHeeded, HasRunLocked, IsClosed, LockGoes, LockStays, Stood, Taken, Unmade, Untaken, with_release}
use Rattle.smk_cli_calls.specs.Whole.{AsksFor, HasRun, Heeded, IsRefusal, IsToServe, OfPlan, OfWorkflow, Unasked, Unheeded}
use Rattle.smk_laws_driven.specs.Completing.{NoMemory as OfMemory}
use Rattle.smk_laws_complete.specs.Derived.{AllHaveValues, GathersAlone}
use Rattle.smk_laws_refusing.specs.Heeding.{IsSameButLock}
use Rattle.smk_laws_refusing.proofs.Heeding.{on_both, refusals_heed_no_lock, same_back}
use Rattle.smk_clean.proofs.Leaving.{faults_later}
use Rattle.smk_clean.proofs.Locked.{locked_same, refused_before, start_sound}
use Rattle.smk_laws_call.specs.Complete.{EndsComplete, IsCleanAsked, IsRunAnswer, setting_in}
use Rattle.smk_laws_call.proofs.Drove.{drove_is_complete}
use Rattle.smk_laws_driven.specs.Grown.{GrowsToClash}
use Rattle.smk_laws_call.proofs.Grown.{grown_heeds_no_lock}
use Rattle.smk_laws_call.specs.Calls.{AllIsWell, BrokenOff, CallIsComplete, GrewToClash, IsCleanCall, ListingIsComplete, LockedOut, MayTell, PlanRefused}
use Rattle.smk_laws_call.proofs.Plain.{plain_flows_plan_plainly}
use Rattle.smk_cli_calls.proofs.OneByOne.{none_grow}
use Rattle.smk_eval_files.specs.Looks.{Nodes}
use Rattle.smk_laws_complete.proofs.Alone.{read_flows_gather_alone}
use Rattle.smk_laws_call.proofs.Working.{listed_ends, refused_plans_may_stop, want_stops, work_is_complete}

-- ## What is asked of a run

-- what is asked of a workflow that reads gathers alone
gathers_alone : (words : RunWords) (nodes : Nodes) (asked : Asked) → IsAskedIn words nodes (Ok asked) → GathersAlone asked.flow
gathers_alone words nodes asked h = read_flows_gather_alone nodes asked.file words.sets asked.flow h.0.1

-- ## What is told of an answer

told_of :
    (act : Act) (read : List ℕ → Option Record) (run : Bool) (words : RunWords) (w : World) (result : Result (Unit {0}) Fault) (told : Option Fault) →
    MayTell act read run words w (fault_of result) → IsOutcome (fault_of result) told → MayTell act read run words w told
told_of act read run words w result told may (inl same) = subst (MayTell act read run words w) (sym same) may
told_of act read run words w result told may (inr memory) = subst (MayTell act read run words w) (sym memory.1) (BrokenOff fault.OutOfMemory OfMemory)

ended :
    (act : Act) (read : List ℕ → Option Record) (run : Bool) (words : RunWords) (w : World) (result : Result (Unit {0}) Fault) → EndsComplete result →
    MayTell act read run words w (fault_of result)
ended act read run words w (Ok u) h = AllIsWell
ended act read run words w (Err f) h = BrokenOff f h

-- a refusal is one of the plan
refused_tells :
    (act : Act) (read : List ℕ → Option Record) (run : Bool) (words : RunWords) (w : World) (H : Versions) (f : Fault) →
    IsCleanCall act read words w H → IsRefusal read words w w f → MayTell act read run words w (Some f)
refused_tells act read run words w H f clean (OfWorkflow fails) = absurd (clean.unrefused f fails)
refused_tells act read run words w H f clean (OfPlan asked is refused) =
    PlanRefused asked f is
    (refused_plans_may_stop act read asked words w H f (record { differ = clean.differ; sound = clean.sound; alone = gathers_alone words w.nodes asked is; values = clean.values asked is }) refused)

-- a chain of plans that comes to a derivation that is refused is refused so
clashing_refuses :
    (rules : Rules) (image : Image) (progress : Progress) (L M : Listings) (r : Refusal) (f : Fault) → ComesTo rules image progress L M →
    derivation rules.flow image M rules.settings.targets ≡ Refuse r → IsFault rules.flow r f → ChainRefuses rules image progress L f
clashing_refuses rules image progress L M r f (Here lists) e is = DerivationRefuses lists r f e is
clashing_refuses rules image progress L M r f (Onward plan lists is none more rest) e fault_is =
    NextRefuses plan f is none more
    (clashing_refuses rules image progress (plan.lists ++ new_listings image rules.settings progress plan) lists r f rest e fault_is)

module _ (act : Act) (read : List ℕ → Option Record) (words : RunWords) (w : World) (H : Versions) (reads : ReadsRecords read)
    (clean : IsCleanCall act read words w H) where
  abbrev May : Option Fault → Type 0
  May told = MayTell act read true words w told

  abbrev outside : Outside
  outside = record { read = read; act = act }

  -- in a folder that is the same but for the lock targets have the same values
  same_values : (u : World) (asked : Asked) → IsSameButLock (seen read w) (seen read u) → AllHaveValues (setting_in act read asked w) asked.targets →
      AllHaveValues (setting_in act read asked u) asked.targets
  same_values u asked same h = on_both (λ (i : Image). AllHaveValues (setting_of asked.flow act (λ j. is_none (missing j)) i) asked.targets) (λ i l k. k)
      (seen read w) (seen read u) same h

  clean_then :
      (u : World) (asked : Asked) → IsAskedIn words w.nodes (Ok asked) → SoundWorld outside u H → IsSameButLock (seen read w) (seen read u) →
      IsCleanAsked act read asked u H
  clean_then u asked is sound same =
      record {
        differ = clean.differ;
        sound = sound;
        alone = gathers_alone words w.nodes asked is;
        values = same_values u asked same (clean.values asked is);
      }

  -- what may stop the plans of one may stop those of the other
  stops_before :
      (u : World) (asked : Asked) (f : Fault) → IsAskedIn words w.nodes (Ok asked) → IsSameButLock (seen read w) (seen read u) →
      MayStop (rules_for read asked.flow (settings_of asked words)) (seen read u) nothing_done f →
      MayStop (rules_for read asked.flow (settings_of asked words)) (seen read w) nothing_done f
  stops_before u asked f is same (TooMany count) = TooMany count
  stops_before u asked f is same (Clashing g clashing) =
      refused_plans_may_stop act read asked words w H f (clean_then w asked is clean.sound refl)
      (refusals_heed_no_lock (rules_for read asked.flow (settings_of asked words)) nothing_done [] f (seen read u) (seen read w)
      (same_back (seen read w) (seen read u) same)
      (clashing_refuses (rules_for read asked.flow (settings_of asked words)) (seen read u) nothing_done [] clashing.lists clashing.refusal f clashing.comes
      clashing.refused clashing.is_fault))
  stops_before u asked f is same (Incomplete paths) = Incomplete paths
  stops_before u asked f is same (Protected path) = Protected path
  stops_before u asked f is same (AboveLimit rule path name asks bound) = AboveLimit rule path name asks bound
  stops_before u asked f is same (TooLong rule bytes) = TooLong rule bytes

  -- and a clash to which the plans of one grow is one of the other
  grown_before :
      (u : World) (asked : Asked) (f : Fault) → IsSameButLock (seen read w) (seen read u) →
      GrowsToClash act (rules_for read asked.flow (settings_of asked words)) (seen read u) f →
      GrowsToClash act (rules_for read asked.flow (settings_of asked words)) (seen read w) f
  grown_before u asked f same h =
      grown_heeds_no_lock act (rules_for read asked.flow (settings_of asked words)) f (seen read u) (seen read w)
      (same_back (seen read w) (seen read u) same) h

  answered :
      (asked : Asked) (u : World) → IsAskedIn words w.nodes (Ok asked) → IsSameButLock (seen read w) (seen read u) →
      (answer : Result (Unit {0}) Fault) → IsRunAnswer act read asked words u answer → May (fault_of answer)
  answered asked u is same (Ok t) h = AllIsWell
  answered asked u is same (Err f) (inl (inl may)) = PlanRefused asked f is (stops_before u asked f is same may)
  answered asked u is same (Err f) (inl (inr off)) = BrokenOff f off
  answered asked u is same (Err f) (inr (grow, clash)) = GrewToClash asked f refl is grow (grown_before u asked f same clash)

  -- a run by what was asked of the folder, in that one or in one that is the same but for the lock
  went_tells :
      (u v : World) (old new : Device) (p q : Sunk) (answer : Result (Unit {0}) Fault) → old.world ≡ Some u →
      new.world ≡ Some v → SoundWorld outside u H →
      IsSameButLock (seen read w) (seen read u) →
      (Rose old.faults new.faults → ⊥) → Went act words answer (IsRefusal read words w u) (AsksFor words w) (IsToServe read words w u) old new p q → May
      (fault_of answer)
  went_tells u v old new p q answer at end sound same never (Refused f e refused looked) =
      subst (λ r. May (fault_of r)) (sym e) (refused_tells act read true words w H f clean (refused_before read words w u f same refused))
  went_tells u v old new p q answer at end sound same never (Drove asked apart asks drove) =
      answered asked u asks same answer
      (drove_is_complete act read asked words u v H answer old new p q at end reads (clean_then u asked asks sound same) never drove)
  went_tells u v old new p q answer at end sound same never (Stopped f e want looked) = subst (λ r. May (fault_of r)) (sym e) (BrokenOff f (want_stops f want))
  went_tells u v old new p q answer at end sound same never (Worked asked told one planned worked) =
      let is = planned.is_asked in
      ended act read true words w answer
      (work_is_complete act read asked told words u v H answer old new p q at end
      (clean_then u asked is sound same) planned.plan
      (λ plan last. plain_flows_plan_plainly asked.flow _ _ _ _ plan (none_grow asked.flow words one) last) never worked)

  module _ (v : World) (old new : Device) (p q : Sunk) (answer : Result (Unit {0}) Fault)
      (at : old.world ≡ Some w) (end : new.world ≡ Some v)
      (never : Rose old.faults new.faults → ⊥) where
    -- the run under the lock
    closed_tells :
        (u : World) (locked : Device) → locked.world ≡ Some u → SoundWorld outside u H → IsSameButLock (seen read w)
        (seen read u) → old.faults ≤ locked.faults →
        (ran : HasRunLocked act words answer (IsRefusal read words w u) (AsksFor words w) (IsToServe read words w u) locked new p q) → May (fault_of answer)
    closed_tells u locked at_u sound same le ran = go ran.closed
      where
        go : IsClosed act ran.ran answer locked ran.left new → May (fault_of answer)
        go (LockStays rose is unchanged) =
            absurd (never (rose_earlier old.faults locked.faults new.faults le (subst (λ (d : Device). Rose locked.faults d.faults) (sym unchanged) rose)))
        go (LockGoes r still none goes is) = by r goes is
          where
            by : (r : Result (Unit {0}) Failed) → HasActed act (HasReleased r) ran.left new (is_err r) → answer ≡ with_release r ran.ran → May (fault_of answer)
            by (Ok t) goes is =
                let d = goes.did v end in
                subst (λ r. May (fault_of r)) (sym is) (went_tells u d.0 locked ran.left p q ran.ran at_u d.1 sound same still ran.went)
            by (Err e) goes is =
                let later = faults_later act words ran.ran (IsRefusal read words w u) (AsksFor words w) (IsToServe read words w u) locked ran.left p q ran.went in
                absurd (never (rose_earlier old.faults ran.left.faults new.faults (omega (arith, le, later)) (goes.cause.rose refl)))

    ran_tells : HasRun act read words w answer old new p q → May (fault_of answer)
    ran_tells (Unheeded free went) = went_tells w v old new p q answer at end clean.sound refl never went
    ran_tells (Unasked f heeds e (inl want) looked) = subst (λ r. May (fault_of r)) (sym e) (BrokenOff f (want_stops f want))
    ran_tells (Unasked f heeds e (inr fails) looked) = absurd (clean.unrefused f fails)
    ran_tells (Heeded x looked heeds after at_x looking heeded) = go heeded
      where
        nodes : reading (x.nodes lock_place) ≡ reading (w.nodes lock_place)
        nodes =
            ap (λ (y : World). reading (y.nodes lock_place)) after.is
            ∙ ap (λ (n : Path → NodeState). reading (n lock_place)) (looks_nodes false w after.looks after.only_looks)

        go : HasHeeded act words answer (IsRefusal read words w) (AsksFor words w) (IsToServe read words w) x looked new p q → May (fault_of answer)
        go (Unmade is unchanged unput) = subst (λ r. May (fault_of r)) (sym is) (BrokenOff fault.OutOfMemory OfMemory)
        go (Stood is stands tried unput) = subst (λ r. May (fault_of r)) (sym is) (LockedOut refl heeds (subst IsSome nodes stands))
        go (Untaken e is tried unput) = absurd (never (rose_earlier old.faults looked.faults new.faults looking.acted.cause.later (tried.cause.rose refl)))
        go (Taken u locked once at_u taken ran) =
            closed_tells u locked at_u
            (start_sound outside H w clean.differ clean.sound words answer old looked locked new p q x u v at end after looking at_x once at_u taken)
            (locked_same act read w x u clean.sound.formed after once) (omega (arith, looking.acted.cause.later, taken.cause.later)) ran

pub call_is_complete : CallIsComplete
call_is_complete act read words w v H told old new out_old out_new at end reads clean never served =
    told_of act read true words w served.answer told
    (ran_tells act read words w H reads clean v old new out_old out_new served.answer at end never served.serves) served.told_is

pub listing_is_complete : ListingIsComplete
listing_is_complete act read words w H told old new out_old out_new clean served =
    told_of act read false words w served.answer told (go served.answer served.serves.1) served.told_is
  where
    go :
        (r : Result (Unit {0}) Fault) → HasListed (IsRefusal read words w w) (IsToServe read words w w) out_old out_new r →
        MayTell act read false words w (fault_of r)
    go r (NotListed f refused unput) = refused_tells act read false words w H f clean refused
    go r (HasListed.Stopped f want unput) = BrokenOff f (want_stops f want)
    go r (Listed asked told x planned faults put) = listed x faults
      where
        listed : (x : Result (Unit {0}) Fault) → ((f : Fault) → x ≡ Err f → (f ≡ fault.Output) ⊎ (f ≡ fault.OutOfMemory)) → MayTell act read false words w (fault_of x)
        listed x faults = ended act read false words w x (listed_ends x faults)
