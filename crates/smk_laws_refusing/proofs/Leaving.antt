-- A run whose plans are refused at its entry leaves all as it stands.
use Rattle.std.proofs.Common.{◌≡◌, ◌⊎◌, inl, inr, ℕ, Bool, true, false, List, [], ◌∷◌, ◌++◌, refl, sym, ap, subst, ◌∙◌, true≢false}
use Rattle.std.proofs.Common.{Option, Some, None, Result, Ok, Err, append-nil}
use Rattle.std.specs.Prelude.{IsSome, is_ok, is_some}
use Rattle.smk_world.specs.declared.event.Ended.{Ended}
use Rattle.smk_world.specs.declared.event.Event.{Event}
use Rattle.smk_world.specs.World.{World, run}
use Rattle.smk_world.specs.Devices.{AreLooks, Sunk}
use Rattle.smk_world.specs.Requests.{request}
use Rattle.smk_world.specs.Requests.Request.{Settle}
use Rattle.smk_world.specs.Runs.{Did}
use Rattle.smk_world.specs.Trees.{IsIn, Path}
use Rattle.smk_world.proofs.Devices.{looks_append}
use Rattle.smk_flow.specs.Flows.{Flow}
use Rattle.smk_plan.specs.States.{Plan, nothing_done}
use Rattle.smk_report.specs.Lines.{Text}
use Rattle.smk_report.specs.declared.fault.Fault.{Fault}
use Rattle.smk_report.specs.declared.fault.Fault.TheVariants as fault
use Rattle.smk_job.specs.Jobs.{Underway}
use Rattle.smk_keep.specs.declared.fault.KeepFault.{KeepFault}
use Rattle.smk_keep.specs.declared.fault.KeepFault.TheVariants.{Device as DeviceFault, OutOfMemory as MemoryFault}
use Rattle.smk_keep_lock.proofs.Staying.{AllKeepTo, KeepsTo, changes_only, looks_keep}
use Rattle.smk_run.specs.Reports.{HasReported}
use Rattle.smk_run.proofs.Calls.{cut_each, done_each, each_append}
use Rattle.smk_drive.specs.Moments.{Rules, seen}
use Rattle.smk_drive.specs.Refusals.{ChainRefuses}
use Rattle.smk_drive_course.specs.Refusals.{LongRecord, NoSerial, PlansAreRefused}
use Rattle.smk_drive_course.specs.declared.ending.End.{End}
use Rattle.smk_drive_course.specs.Stands.{GoesBy, GoesOn, IsClear, IsRefused, LacksMemory, Refuses, Stand, WasHalted, first_fault, first_stand}
use Rattle.smk_drive_course.specs.Steps.{AreRemoved, Deed, GoesByAnswer, IsWaitFor, NoMore, OneMore}
use Rattle.smk_drive_course.specs.Breaks.{Begins, BeginsNot, BreaksOff, Closes, Done, FailsToWait, Halts, Leaves, ReadsNot, Spends}
use Rattle.smk_drive_course.specs.Breaks.{SpendsNot, Step, Steps, Then, Waits}
use Rattle.smk_drive_course.specs.Driven.{IsAnswer, IsOpening, IsRun, LacksMemory as OpeningLacksMemory, LoadingFails, LooksFail, Opens}
use Rattle.smk_drive_course.specs.Driven.{SettlingFails, device_failed}
use Rattle.smk_drive_course.specs.Reports.{IsFrontFor, IsReport, lines_of}
use Rattle.smk_laws_moments.proofs.ChildrenOf.{opening_quiet}
use Rattle.smk_laws_refusing.specs.Leaving.{HasOnlyOpened, IsUnput, LeavesAllBut, RefusedAtEntryFails, RefusedAtEntryLeavesAll}
use Rattle.smk_laws_refusing.proofs.LeftAlone.{leaves_then, looks_leave, quiet_leaves}
use Rattle.smk_laws_refusing.proofs.Refusing.{first_fault_ends}

none_some : (f : Fault) → None ≡ Some f → ⊥
none_some f h = cc

told_now : (world : Option World) → IsSome world → (v : World) × (world ≡ Some v)
told_now None told = absurd (true≢false (sym told))
told_now (Some v) told = (v, refl)

same_world : (w v : World) → Some w ≡ Some v → w ≡ v
same_world w v h = cc

still_first : (x : Option Fault) (f g : Fault) → x ≡ Some f → first_fault x g ≡ Some f
still_first None f g h = absurd (none_some f h)
still_first (Some e) f g h = h

nothing_both : {A : Type 0} (xs ys : List A) → [] ≡ xs ++ ys → (xs ≡ []) × (ys ≡ [])
nothing_both [] ys h = (refl, sym h)
nothing_both (x ∷ xs) ys h = absurd cc

-- ## Steps where a fault has come and no child runs

record IsIdle (f : Fault) (s : Stand) : Type 0 where
  halted : s.halted ≡ Some f
  idle : s.runs ≡ []

module _ (rules : Rules) (entry : World) (f : Fault) where
  unclear : {T : Type 0} (s : Stand) (w : World) (before : List Event) → s.halted ≡ Some f → IsClear rules s w before → T
  unclear s w before halted clear = absurd (none_some f (sym clear.unhalted ∙ halted))

  unwaited : {T : Type 0} (s : Stand) (going : Underway) (ended : Ended) → IsIdle f s → IsWaitFor going ended s → T
  unwaited s going ended at waited = absurd (subst (λ rs. IsIn rs going) at.idle waited.ran)

  none_removed :
      (s t : Stand) (w : World) (before : List Event) (paths : List Path) (es : List Event) →
      s.halted ≡ Some f → AreRemoved rules s w before paths es t → (paths ≡ []) × (t.halted ≡ Some f)
  none_removed s t w before paths es halted (NoMore s1 w1 before1) = (refl, halted)
  none_removed s t w before paths es halted (OneMore s1 t1 u1 w1 before1 p ps e es1 clear spent listed done plans rest) = unclear s1 w1 before1 halted clear

  -- nothing is done but looks, and so it stays
  abbrev OnlyLooks : Stand → List Event → List Deed → Type 0
  OnlyLooks t es deeds = AreLooks false es × (deeds ≡ []) × IsIdle f t

  step_looks : (s t : Stand) (w : World) (before es : List Event) (deeds : List Deed) → IsIdle f s → Step rules entry s w before es deeds t → OnlyLooks t es deeds
  step_looks s t w before es deeds at (Begins h) = unclear s w before at.halted h.to_begin.next.clear
  step_looks s t w before es deeds at (Closes h) = unwaited s h.going h.ended at h.waited
  step_looks s t w before es deeds at (Spends h) = absurd (h.some (none_removed s h.last w before h.paths h.removing at.halted h.removed).0)
  step_looks s t w before es deeds at (Halts h) =
      let halted = ap (λ (x : Stand). x.halted) h.leaves ∙ still_first s.halted f h.why at.halted in
      (h.only_read, h.deeds_are, record { halted = halted; idle = ap (λ (x : Stand). x.runs) h.leaves ∙ at.idle })
  step_looks s t w before es deeds at (Leaves h) = unwaited s h.going h.ended at h.waited
  step_looks s t w before es deeds at (BreaksOff h) = unwaited s h.going h.ended at h.waited
  step_looks s t w before es deeds at (ReadsNot h) = unclear s w before at.halted h.next.clear
  step_looks s t w before es deeds at (BeginsNot h) = unclear s w before at.halted h.to_begin.next.clear
  step_looks s t w before es deeds at (SpendsNot h) =
      let none = none_removed s h.last w before h.paths h.removing at.halted h.removed in
      elim h.called [
        | inl removal ↦ unclear h.last (run w h.removing) (before ++ h.removing) none.1 removal.2
        | inr settling ↦ absurd (settling.1 none.0)
      ]
  step_looks s t w before es deeds at (Waits h) = unwaited s h.going h.ended at h.waited
  step_looks s t w before es deeds at (FailsToWait h) = absurd (h.ran at.idle)

  steps_look :
      (s t : Stand) (w : World) (before es : List Event) (deeds : List Deed) →
      IsIdle f s → Steps rules entry s w before es deeds t → OnlyLooks t es deeds
  steps_look s t w before es deeds at (Done s1 w1 before1) = (refl, refl, at)
  steps_look s t w before es deeds at (Then s1 t1 u1 w1 before1 es1 fs deeds1 more step steps) =
      let first = step_looks s1 t1 w1 before1 es1 deeds1 at step in
      let later = steps_look t1 u1 (run w1 es1) (before1 ++ es1) fs more first.2 steps in
      (looks_append false es1 fs first.0 later.0, λ i. first.1 i ++ later.1 i, later.2)

-- ## Openings

keeps_more : (es fs : List Event) → AllKeepTo [] [] es → AllKeepTo [] [] fs → AllKeepTo [] [] (es ++ fs)
keeps_more es fs h k = each_append (λ (e : Event). KeepsTo [] [] (request e.call)) es fs h k

module _ (rules : Rules) (w : World) where
  opening_keeps : (opened : Result (Unit {0}) KeepFault) (es : List Event) → IsOpening rules w opened es → AllKeepTo [] [] es
  opening_keeps opened es (Opens loading settling looks ps loaded signs settled looked) =
      keeps_more loading (settling ++ looks) (looks_keep [] [] false loading loaded)
      (keeps_more settling looks (done_each (KeepsTo [] []) (Settle ps ∷ []) settling (tt, tt) settled) (looks_keep [] [] false looks looked))
  opening_keeps opened es (OpeningLacksMemory loading loaded) = looks_keep [] [] false loading loaded
  opening_keeps opened es (LoadingFails loading loaded) = looks_keep [] [] true loading loaded
  opening_keeps opened es (SettlingFails loading settling ps loaded signs cut) =
      keeps_more loading settling (looks_keep [] [] false loading loaded) (cut_each (KeepsTo [] []) (Settle ps ∷ []) settling (tt, tt) cut)
  opening_keeps opened es (LooksFail loading settling looks ps loaded signs settled looked) =
      keeps_more loading (settling ++ looks) (looks_keep [] [] false loading loaded)
      (keeps_more settling looks (done_each (KeepsTo [] []) (Settle ps ∷ []) settling (tt, tt) settled) (looks_keep [] [] true looks looked))

  opening_leaves : (opened : Result (Unit {0}) KeepFault) (es : List Event) → IsOpening rules w opened es → LeavesAllBut [] w es
  opening_leaves opened es h = quiet_leaves [] w es (changes_only [] [] w es (opening_keeps opened es h)) (opening_quiet rules w opened es h)

  leaves_all : (es : List Event) → HasOnlyOpened rules w es → LeavesAllBut [] w es
  leaves_all es h =
      subst (LeavesAllBut [] w) (sym h.split)
      (leaves_then [] w h.opening h.looks (opening_leaves h.opened h.opening h.opens) (looks_leave [] false (run w h.opening) h.looks h.only_looks))

-- ## A run

-- where a fault has come the run didn't come to its end
no_end :
    (rules : Rules) (v : World) (log : List Event) (deeds : List Deed) (s : Stand) (g : Fault) (told : Option End) (result : Result End Fault) →
    IsAnswer rules v log deeds s told result → s.halted ≡ Some g → told ≡ None
no_end rules v log deeds s g None result answer halted = refl
no_end rules v log deeds s g (Some end) (Ok e) (same, well) halted = absurd (none_some g (sym well.unhalted ∙ halted))
no_end rules v log deeds s g (Some end) (Err h) (lost, well) halted = absurd (none_some g (sym well.unhalted ∙ halted))

module _ (rules : Rules) (w : World) where
  -- the plans of the entry are refused so; or a call failed, or memory was wanting
  abbrev IsWhy : Fault → Type 0
  IsWhy g = ChainRefuses rules (seen rules w) nothing_done [] g ⊎ ((g ≡ fault.Device) ⊎ (g ≡ fault.OutOfMemory))

  -- what a run is that begins at such a stand
  record IsIdleRun (told : Option End) (result : Result End Fault) (deeds : List Deed) (es : List Event) : Type 0 where
    answer : Fault
    answered : result ≡ Err answer
    why : IsWhy answer
    no_deeds : deeds ≡ []
    untold : told ≡ None
    opened : HasOnlyOpened rules w es

  module _ (f : Fault) (refused : ChainRefuses rules (seen rules w) nothing_done [] f) where
    abbrev Starts : Stand → Type 0
    Starts s = (g : Fault) × IsIdle g s × IsWhy g

    chain_refused : (plan : Option Plan) (g : Fault) → Refuses rules w (first_stand plan) w [] g → ChainRefuses rules (seen rules w) nothing_done [] g
    chain_refused plan g (PlansAreRefused x rest refuses) = refuses
    chain_refused plan g (NoSerial e rest next full) = absurd (next.unrefused f refused)
    chain_refused plan g (LongRecord e o earlier later rest next fits split short long) = absurd (next.unrefused f refused)

    starts_by : (plan : Option Plan) (s : Stand) → GoesBy rules w (first_stand plan) w [] s → Starts s
    starts_by plan s (GoesOn clear) = absurd (clear.unrefused f refused)
    starts_by plan s (IsRefused g unhalted refuses) = (g, record { halted = refl; idle = refl }, inl (chain_refused plan g refuses))
    starts_by plan s LacksMemory = (fault.OutOfMemory, record { halted = refl; idle = refl }, inr (inr refl))
    starts_by plan s (WasHalted was) = absurd (was refl)

    starts : (opened : Result (Unit {0}) KeepFault) (plan : Option Plan) (s : Stand) → GoesByAnswer rules w opened (first_stand plan) w [] s → Starts s
    starts (Ok u) plan s goes = starts_by plan s goes
    starts (Err MemoryFault) plan s h =
        (fault.OutOfMemory, record { halted = ap (λ (x : Stand). x.halted) h; idle = ap (λ (x : Stand). x.runs) h }, inr (inr refl))
    starts (Err DeviceFault) plan s h =
        (fault.Device, record { halted = ap (λ (x : Stand). x.halted) h; idle = ap (λ (x : Stand). x.runs) h }, inr (inl refl))

    idle_run :
        (told : Option End) (result : Result End Fault) (deeds : List Deed) (es : List Event) →
        IsRun rules told result deeds w es → IsIdleRun told result deeds es
    idle_run told result deeds es r =
        let start = starts r.opened r.plan r.start r.goes_by in
        let later = steps_look rules w start.0 r.start r.last (run w r.opening) r.opening r.rest deeds start.1 r.steps in
        record {
          answer = start.0;
          answered =
              first_fault_ends rules w r.start r.last (run w r.opening) (run w es) r.opening r.rest es deeds deeds told result start.0 r.steps start.1.halted
              r.answer;
          why = start.2;
          no_deeds = later.1;
          untold = no_end rules (run w es) es deeds r.last start.0 told result r.answer later.2.halted;
          opened = record { opened = r.opened; opening = r.opening; looks = r.rest; split = r.events; opens = r.opens; only_looks = later.0 };
        }

-- ## The report

no_text : (flow : Flow) (g : Fault) (text : Text) → IsFrontFor flow [] g [] text → text ≡ []
no_text flow g text h =
    let front = nothing_both h.before h.later h.split in
    let more = (nothing_both h.more h.rest (ap (λ ds. lines_of flow ds ++ []) (sym front.1) ∙ h.is_front)).0 in
    h.text_is ∙ (λ i. lines_of flow (front.0 i) ++ more i)

nothing_told :
    (rules : Rules) (deeds : List Deed) (told : Option End) (result : Result End Fault) (g : Fault) (text : Text) →
    deeds ≡ [] → told ≡ None → result ≡ Err g → IsReport rules deeds told result text → text ≡ []
nothing_told rules deeds told result g text none untold is h =
    no_text rules.flow g text
    (subst (λ r. IsReport rules [] None r text) is
    (subst (λ t. IsReport rules [] t result text) untold (subst (λ ds. IsReport rules ds told result text) none h)))

abbrev Put : Type 0
Put = Option (List ℕ)

same_put : (was now : Put) → ((after : List ℕ) → now ≡ Some after → (before : List ℕ) × (was ≡ Some before) × (after ≡ before)) → (now ≡ was) ⊎ (now ≡ None)
same_put was None h = inr refl
same_put was (Some after) h = let t = h after refl in inl (ap (λ x. Some x) t.2 ∙ sym t.1)

quiet_put : (was now : Put) → (IsSome was → IsSome now) → (now ≡ was) ⊎ (now ≡ None) → now ≡ was
quiet_put was now stays (inl same) = same
quiet_put None now stays (inr none) = none
quiet_put (Some bytes) now stays (inr none) = absurd (true≢false (sym (stays refl) ∙ ap is_some none))

unput : (P : Text → Type 0) (old new : Sunk) (lost : Bool) → ((text : Text) → P text → text ≡ []) → HasReported P old new lost → IsUnput old new
unput P old new lost none h = go lost refl
  where
    put : (new.put ≡ old.put) ⊎ (new.put ≡ None)
    put =
        same_put old.put new.put
        (λ after at. let t = h.told after at in (t.0, t.1, t.2.2 ∙ (ap (λ x. t.0 ++ x) (none t.2.0 t.2.1) ∙ append-nil t.0)))

    go : (b : Bool) → lost ≡ b → IsUnput old new
    go false quiet =
        let same = quiet_put old.put new.put (h.stays quiet) put in
        let count = h.quiet quiet in
        inl (λ i. record { put = same i; faults = count i })
    go true failed = inr (record { later = h.cause.later; rose = λ failure. h.cause.rose failed }, put)

-- ## What was driven

pub refused_at_entry_leaves_all : RefusedAtEntryLeavesAll
refused_at_entry_leaves_all act rules result w v f old new out_old out_new at now refused drove =
    let d = drove.ran.did v now in
    let ran = idle d.0 d.2.0 d.1 d.2.2 in
    record {
      answer = ran.answer;
      answered = ran.answered;
      why = subst (λ u. IsWhy rules u ran.answer) (same_world d.0 w (sym d.1 ∙ at)) ran.why;
      failure = drove.failure;
      tells = λ h. drove.tells (ap device_failed ran.answered ∙ h);
      left = record { did = left; stays = drove.ran.stays; cause = drove.ran.cause; idle = drove.ran.idle };
      unput =
          unput (IsReport rules drove.deeds drove.told result) out_old out_new drove.lost
          (λ text. nothing_told rules drove.deeds drove.told result ran.answer text ran.no_deeds ran.untold ran.answered) drove.text;
    }
  where
    idle :
        (u : World) (es : List Event) →
        old.world ≡ Some u → IsRun rules drove.told result drove.deeds u es → IsIdleRun rules u drove.told result drove.deeds es
    idle u es told r =
        idle_run rules u f (subst (λ x. ChainRefuses rules (seen rules x) nothing_done [] f) (same_world w u (sym at ∙ told)) refused) drove.told result
        drove.deeds es r

    left : Did act old.world new.world (λ u es. HasOnlyOpened rules u es × LeavesAllBut [] u es)
    left u end =
        let e = drove.ran.did u end in
        let opened = (idle e.0 e.2.0 e.1 e.2.2).opened in
        (e.0, e.1, (e.2.0, e.2.1, (opened, leaves_all rules e.0 e.2.0 opened), e.2.3))

pub refused_at_entry_fails : RefusedAtEntryFails
refused_at_entry_fails act rules result w f old new out_old out_new at refused drove = go (is_ok result) refl
  where
    go : (b : Bool) → is_ok result ≡ b → is_ok result ≡ false
    go false ok = ok
    go true ok =
        let v = told_now new.world (drove.ran.stays (drove.quiet ok) (ap is_some at)) in
        ap is_ok (refused_at_entry_leaves_all act rules result w v.0 f old new out_old out_new at v.1 refused drove).answered
