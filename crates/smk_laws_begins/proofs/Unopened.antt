-- A run that doesn't open.
use Rattle.std.proofs.Common.{◌≡◌, inl, inr, false, List, [], ◌∷◌, refl, sym, ap, subst, ◌∙◌, Option, Some, None, Result, Ok, Err, true≢false}
use Rattle.std.proofs.lemmas.List.{append-nil}
use Rattle.smk_world.specs.declared.event.Call.{Call}
use Rattle.smk_world.specs.declared.event.Call.TheVariants.{Looked, ReadFile, ReadFolder, Written, Created, Removed, MadeParents, Settled, Protected, Started, Waited}
use Rattle.smk_world.specs.declared.event.Child.{Child}
use Rattle.smk_world.specs.declared.event.Event.{Event}
use Rattle.smk_world.specs.World.{IsFormed, World, is_within, numbers, run}
use Rattle.smk_world.specs.Calls.{Rose, owned_now}
use Rattle.smk_world.specs.Devices.{Device, IsSoundDevice}
use Rattle.smk_world.specs.Requests.{request}
use Rattle.smk_world.specs.Trees.{Act}
use Rattle.smk_flow.specs.Flows.{Flow}
use Rattle.smk_store.specs.Unowned.{NoneOwned}
use Rattle.smk_pick.specs.declared.settings.Settings.{Settings}
use Rattle.smk_plan.specs.States.{Plan}
use Rattle.smk_keep.specs.declared.fault.KeepFault.{KeepFault}
use Rattle.smk_keep.specs.declared.fault.KeepFault.TheVariants.{Device as DeviceFault, OutOfMemory as MemoryFault}
use Rattle.smk_report.specs.declared.fault.Fault.{Fault}
use Rattle.smk_report.specs.declared.fault.Fault.TheVariants as fault
use Rattle.smk_run.specs.Statuses.{AreGiven, HasGiven}
use Rattle.smk_run.proofs.Calls.{EachCall}
use Rattle.smk_run.proofs.Honest as honest
use Rattle.smk_run.proofs.Texts.{reported_nothing}
use Rattle.smk_laws_history.proofs.CurrentComplete.{seen_is_complete}
use Rattle.smk_plan_preview.specs.Faults.{device_failed}
use Rattle.smk_drive.specs.Moments.{Rules, progress_of, seen}
use Rattle.smk_drive_course.proofs.HasMoment.{IsSettled, settled}
use Rattle.smk_drive_course.specs.Driven.{IsOpening, IsRun}
use Rattle.smk_drive_course.specs.Reports.{IsReport}
use Rattle.smk_drive_course.specs.Stands.{IsPlanned, IsRefused, LacksMemory, Stand, broken_by_device, first_stand, halted_by}
use Rattle.smk_drive_course.specs.Steps.{GoesByAnswer}
use Rattle.smk_drive_course.specs.Breaks.{Done}
use Rattle.smk_drive_first.specs.Opening.{AreRules, CallFails, HasStopped, NoMemory}
use Rattle.smk_drive_first.specs.Opening.HasStopped.{IsRefused as PlansRefused}
use Rattle.smk_laws_moments.proofs.ChildrenOf.{opening_quiet}
use Rattle.smk_laws_moments.proofs.QuietCalls as moments
use Rattle.smk_laws_turns.specs.Hubs.{Parts}
use Rattle.smk_laws_begins.specs.Whole.{EntersAs, HasBegunRun, UnopenedRun}
use Rattle.smk_laws_begins.proofs.Faults.{told_as_device, told_as_sink}

-- ## No child runs

no_numbers : (cs : List Child) → numbers cs ≡ [] → cs ≡ []
no_numbers [] is = refl
no_numbers (c ∷ cs) is = absurd (none c.number (numbers cs) is)
  where
    none : {A : Type 0} (x : A) (xs : List A) → x ∷ xs ≡ [] → ⊥
    none x xs e = cc

pub childless : (d : Device) (w : World) → IsSoundDevice d → d.running ≡ [] → d.world ≡ Some w → w.children ≡ []
childless d w sound idle is = no_numbers w.children (sound.same_numbers w is ∙ idle)

pub none_owned : (d : Device) (w : World) → IsSoundDevice d → d.running ≡ [] → d.world ≡ Some w → NoneOwned w
none_owned d w sound idle is =
    λ q owned.
    true≢false (sym (sound.owned w is q owned) ∙ ap (λ cs. is_within q (owned_now cs)) (childless d w sound idle is))

-- ## An opening waits for no child

quiet_call : (c : Call) → moments.IsQuiet (request c) → honest.IsQuiet (request c)
quiet_call (Looked p r) h = tt
quiet_call (ReadFile p limit r) h = tt
quiet_call (ReadFolder p r) h = tt
quiet_call (Written p bytes r) h = tt
quiet_call (Created p r) h = tt
quiet_call (Removed p r) h = tt
quiet_call (MadeParents p r) h = tt
quiet_call (Settled ps r) h = tt
quiet_call (Protected p r) h = tt
quiet_call (Started recipe logs command r) h = tt
quiet_call (Waited r) h = absurd h

quiet_too : (es : List Event) → EachCall moments.IsQuiet es → EachCall honest.IsQuiet es
quiet_too [] h = tt
quiet_too (e ∷ es) h = (quiet_call e.call h.0, quiet_too es h.1)

pub opening_given :
    (act : Act) (T : Type 0) (rules : Rules) (w : World) (opened : Result (Unit {0}) KeepFault) (es : List Event) →
    IsOpening rules w opened es → AreGiven act T w es
opening_given act T rules w opened es opens = honest.quiet_given act T w es (quiet_too es (opening_quiet rules w opened es opens))

stopped_given : (act : Act) (T : Type 0) (rules : Rules) (w : World) (es : List Event) (f : Fault) → HasStopped rules w es f → AreGiven act T w es
stopped_given act T rules w es f (PlansRefused f1 refuses opens) = opening_given act T rules w (Ok tt) es opens
stopped_given act T rules w es f (CallFails opens) = opening_given act T rules w (Err DeviceFault) es opens
stopped_given act T rules w es f (NoMemory opened which opens) = opening_given act T rules w opened es opens

pub enters_given :
    (act : Act) (T : Type 0) (rules : Rules) (settings : Settings) (w : World) (es : List Event) (result : Result Parts Fault) →
    EntersAs rules settings w es result → AreGiven act T w es
enters_given act T rules settings w es (Ok h) entered = opening_given act T rules w (Ok tt) es entered.opens
enters_given act T rules settings w es (Err f) stopped = stopped_given act T rules w es f stopped

-- what it did tells no status of a child
pub begun_given :
    (act : Act) (flow : Flow) (settings : Settings) (result : Result Parts Fault) (old new : Device) (rules : Rules) →
    IsSoundDevice old → old.running ≡ [] → HasBegunRun act flow settings result old new → AreRules flow settings rules → HasGiven act old new
begun_given act flow settings result old new rules sound idle begun by =
    λ w1 is.
    let d = begun.acted.did w1 is in (
      d.0,
      d.1,
      (
        d.2.0,
        d.2.1,
        enters_given act (Rose old.faults new.faults) rules settings d.0 d.2.0 result (d.2.2 (none_owned old d.0 sound idle d.1) rules by),
        d.2.3,
      ),
    )

-- ## The run

-- there is a plan in force, or none
pub some_plan : (rules : Rules) (w : World) → IsFormed w → (plan : Option Plan) × IsPlanned rules (first_stand plan) w
some_plan rules w formed =
    go (settled rules.flow (seen rules w) rules.settings (progress_of w []) (seen_is_complete rules.read w formed) [])
  where
    go :
        IsSettled rules.flow (seen rules w) rules.settings (progress_of w []) (seen_is_complete rules.read w formed) [] →
        (plan : Option Plan) × IsPlanned rules (first_stand plan) w
    go (inl (plan, last)) = (Some plan, last)
    go (inr none) = (None, none)

stops_at :
    (rules : Rules) (w : World) (es : List Event) (f : Fault) (opened : Result (Unit {0}) KeepFault) (plan : Option Plan) (start : Stand) →
    IsPlanned rules (first_stand plan) w →
    IsOpening rules w opened es →
    GoesByAnswer rules w opened (first_stand plan) w [] start → start.halted ≡ Some f → start.runs ≡ [] → IsRun rules None (Err f) [] w es
stops_at rules w es f opened plan start planned opens goes halted idle =
    record {
      opening = es;
      rest = [];
      opened = opened;
      plan = plan;
      start = start;
      last = start;
      events = sym (append-nil es);
      opens = opens;
      planned = planned;
      goes_by = goes;
      steps = Done start (run w es) es;
      waited = inl idle;
      answer = inl halted;
    }

stopped_run : (rules : Rules) (w : World) (es : List Event) (f : Fault) → IsFormed w → HasStopped rules w es f → IsRun rules None (Err f) [] w es
stopped_run rules w es f formed (PlansRefused f1 refuses opens) =
    let p = some_plan rules w formed in
    stops_at rules w es f1 (Ok tt) p.0 (halted_by f1 (first_stand p.0)) p.1 opens (IsRefused f1 refl (refuses p.0)) refl refl
stopped_run rules w es f formed (CallFails opens) =
    let p = some_plan rules w formed in
    stops_at rules w es fault.Device (Err DeviceFault) p.0 (broken_by_device (first_stand p.0)) p.1 opens refl refl refl
stopped_run rules w es f formed (NoMemory opened (inl is) opens) =
    let p = some_plan rules w formed in
    stops_at rules w es fault.OutOfMemory (Ok tt) p.0 (halted_by fault.OutOfMemory (first_stand p.0)) p.1 (subst (λ o. IsOpening rules w o es) is opens)
    LacksMemory refl refl
stopped_run rules w es f formed (NoMemory opened (inr is) opens) =
    let p = some_plan rules w formed in
    stops_at rules w es fault.OutOfMemory (Err MemoryFault) p.0 (halted_by fault.OutOfMemory (first_stand p.0)) p.1
    (subst (λ o. IsOpening rules w o es) is opens) refl refl refl

nothing_told : (rules : Rules) (f : Fault) → IsReport rules [] None (Err f) []
nothing_told rules f =
    record {
      before = [];
      later = [];
      more = [];
      rest = [];
      split = refl;
      text_is = refl;
      is_front = refl;
      has_starts = λ e. refl;
      has_all = λ e. refl;
    }

pub unopened_run : UnopenedRun
unopened_run act flow settings f old new q sound idle begun rules by =
    record {
      deeds = [];
      told = None;
      failure = device_failed {T = Parts} (Err f);
      tells = told_as_device f;
      quiet = λ is. absurd (true≢false (sym is));
      ran = record {
        did = λ w1 is.
            let d = begun.acted.did w1 is in (
              d.0,
              d.1,
              (
                d.2.0,
                d.2.1,
                stopped_run rules d.0 d.2.0 f (sound.formed d.0 d.1) (d.2.2 (none_owned old d.0 sound idle d.1) rules by),
                d.2.3,
              ),
            );
        stays = begun.acted.stays;
        cause = begun.acted.cause;
        idle = λ quiet. begun.acted.running ∙ idle;
      };
      given = begun_given act flow settings (Err f) old new rules sound idle begun by;
      lost = false;
      loses = λ is. sym begun.no_sink ∙ told_as_sink f is;
      whole = λ is. refl;
      text = reported_nothing (IsReport rules [] None (Err f)) q (nothing_told rules f);
    }
