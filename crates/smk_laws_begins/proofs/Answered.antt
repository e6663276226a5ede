-- The job that is next has begun: what the run makes of it by each answer.
use Rattle.std.proofs.Common.{◌≡◌, ℕ, Bool, true, false, ◌||◌, List, [], ◌∷◌, ◌++◌, refl, sym, ap, subst, ◌∙◌, inl, inr, Option, Some, None, Result, Ok, Err}
use Rattle.std.proofs.Math.Bool.{or-false}
use Rattle.std.proofs.lemmas.List.{append-nil}
use Rattle.smk_world.specs.declared.event.Event.{Event}
use Rattle.smk_world.specs.World.{World, run}
use Rattle.smk_world.specs.Calls.{HasOwners}
use Rattle.smk_world.specs.Runs.{Follows}
use Rattle.smk_world.specs.Trees.{Act, Each, is_path_text}
use Rattle.smk_record.specs.declared.record.Stamp.{Stamp}
use Rattle.smk_flow.specs.declared.job.Job.{Job}
use Rattle.smk_flow.specs.Flows.{Flow}
use Rattle.smk_pick.specs.declared.room.Ask.{Ask}
use Rattle.smk_pick.specs.declared.settings.Settings.{Settings}
use Rattle.smk_report.specs.Lines.{Text}
use Rattle.smk_report.specs.declared.fault.Fault.{Fault}
use Rattle.smk_report.specs.declared.fault.Fault.TheVariants as fault
use Rattle.smk_job.specs.Jobs.{Underway}
use Rattle.smk_drive.specs.Moments.{Rules}
use Rattle.smk_drive_step.specs.declared.children.Child.{Child}
use Rattle.smk_drive_step.specs.declared.halt.Halt.{Halt}
use Rattle.smk_drive_step.specs.Beginning.{HasReadAndBegun}
use Rattle.smk_drive_step.specs.Crews.{halted_by, is_device, or_later}
use Rattle.smk_drive_course.specs.Stands.{AtRest, Between, IsReplanned, LacksMemory, Stand, first_fault}
use Rattle.smk_drive_course.specs.Stands as stands
use Rattle.smk_drive_course.specs.Steps.{Deed, Started}
use Rattle.smk_drive_first.specs.Opening.{AreRules}
use Rattle.smk_laws_turns.specs.Going.{HasGoneTo}
use Rattle.smk_laws_turns.specs.Hubs.{IsAt, Parts}
use Rattle.smk_laws_turns.specs.Turning.{HasLed, faulted}
use Rattle.smk_laws_turns.proofs.Going.{goes_on_from}
use Rattle.smk_laws_turns.proofs.Turning.{halt_leads}
use Rattle.smk_laws_turns.specs.Begun.{BeginDiffers}
use Rattle.smk_laws_begins.specs.Fitting.{IsFit}
use Rattle.smk_laws_begins.specs.Noting.{HasNoted}
use Rattle.smk_laws_begins.specs.Begins.{MayTake}
use Rattle.smk_laws_begins.proofs.Leads as leads
use Rattle.smk_laws_begins.proofs.Leads.{gone_one}
use Rattle.smk_laws_begins.proofs.ToBegin.{IsTaken}

some_none : {A : Type 0} {f : Fault} → Some f ≡ None → A
some_none e = absurd (clash e)
  where
    clash : {f : Fault} → Some f ≡ None → ⊥
    clash e = cc

-- a plan that is made anew leaves the faults
replanned_faults : (rules : Rules) (u v : Stand) (w : World) → IsReplanned rules u w v → (v.halted ≡ u.halted) × (v.broken ≡ u.broken)
replanned_faults rules u v w (AtRest plan rest force) = (refl, refl)
replanned_faults rules u v w (Between rest) = (refl, refl)

first_later : (o : Option Fault) (f : Fault) → o ≡ None → Some (or_later o f) ≡ Some f
first_later None f e = refl
first_later (Some g) f e = some_none e

first_came : (o : Option Fault) (f : Fault) → o ≡ None → first_fault o f ≡ Some f
first_came None f e = refl
first_came (Some g) f e = some_none e

module _ (begin_differs : BeginDiffers) (act : Act) (rules : Rules) (entry : World) (h : Parts) (s : Stand) (w : World) (before : List Event) (deeds : List Deed) (number : ℕ)
    (at : IsAt rules entry h s w before deeds) (may : MayTake rules.settings h number)
    (j : Job) (known : List Stamp) (made : ℕ) (draws : Bool) (command : Text) (ask : Ask)
    (fit : IsFit rules.settings h number j known made draws command ask) (logged : Each (λ p. is_path_text p ≡ true) j.logs)
    (flow : Flow) (settings : Settings) (by : AreRules flow settings rules) (x : IsTaken rules entry h s w before deeds number at may j fit.is)
    (going : Underway) (es : List Event) (up : HasReadAndBegun j known made command going w es) (follows : Follows act w es) (owners : HasOwners w) where
  abbrev v : World
  v = run w es

  unhalted : h.halt.fault ≡ None
  unhalted = may.unhalted

  none_came : s.halted ≡ None
  none_came = sym at.halted ∙ unhalted

  module _ (k : Parts) (child : Child) (going_is : child.going ≡ going) (number_is : child.job ≡ number) (ask_is : child.ask ≡ ask) where
    -- the first fault is that of the plan, or want of memory
    only_waits_same : (f : Fault) (q : Halt) → q ≡ halted_by f h.halt → is_device f ≡ false → q.only_waits ≡ s.broken
    only_waits_same f q is other =
        ap (λ (z : Halt). z.only_waits) is ∙ (ap (λ b. h.halt.only_waits || b) other ∙ (or-false h.halt.only_waits ∙ at.waits))

    fault_same : (f : Fault) (q : Halt) → q ≡ halted_by f h.halt → q.fault ≡ Some f
    fault_same f q is = ap (λ (z : Halt). z.fault) is ∙ first_later h.halt.fault f unhalted

    -- all is well
    all_told : HasNoted flow settings h k number draws child (Ok tt) (Ok tt) → HasGoneTo rules entry k s w before es deeds (Started j ∷ [])
    all_told noted =
        let gone = leads.gone begin_differs act rules entry h s w before deeds number at may j known made draws command ask fit logged flow settings by x going es up follows owners k child going_is number_is ask_is (Ok tt) (Ok tt) noted in
        let answer = noted.plan.answers x.state j (at.settings ∙ by.settings_are) x.has_state fit.is in
        gone_one rules entry k s w before es deeds (Started j ∷ [])
        (leads.led_with begin_differs act rules entry h s w before deeds number at may j known made draws command ask fit logged flow settings by x going es up follows owners k child going_is number_is ask_is (Ok tt) (Ok tt) noted k.halt gone.next gone.to gone.replanned gone.goes_by
        (ap (λ (z : Halt). z.fault) noted.halted ∙ (unhalted ∙ sym gone.halted))
        (ap (λ (z : Halt). z.only_waits) noted.halted ∙ (at.waits ∙ sym gone.same.broken))
        (λ none. leads.kept_on begin_differs act rules entry h s w before deeds number at may j known made draws command ask fit logged flow settings by x going es up follows owners k child going_is number_is ask_is (Ok tt) (Ok tt) noted answer.0 answer.2 refl k.halt))

    -- the line couldn't be put
    line_lost : (f : Fault) → HasNoted flow settings h k number draws child (Ok tt) (Err f) → HasGoneTo rules entry k s w before es deeds (Started j ∷ [])
    line_lost f noted =
        let k0 : Parts = record k { halt = h.halt } in
        let gone = leads.gone begin_differs act rules entry h s w before deeds number at may j known made draws command ask fit logged flow settings by x going es up follows owners k child going_is number_is ask_is (Ok tt) (Err f) noted in
        let answer = noted.plan.answers x.state j (at.settings ∙ by.settings_are) x.has_state fit.is in
        let led : HasLed rules entry k0 s w before es deeds (Started j ∷ []) =
        leads.led_with begin_differs act rules entry h s w before deeds number at may j known made draws command ask fit logged flow settings by x going es up follows owners k child going_is number_is ask_is (Ok tt) (Err f) noted h.halt gone.next gone.to gone.replanned gone.goes_by
        (unhalted ∙ sym gone.halted) (at.waits ∙ sym gone.same.broken)
        (λ none. leads.kept_on begin_differs act rules entry h s w before deeds number at may j known made draws command ask fit logged flow settings by x going es up follows owners k child going_is number_is ask_is (Ok tt) (Err f) noted answer.0 answer.2 refl h.halt) in
        let last =
        halt_leads rules entry k0 led.stand v (before ++ es) (deeds ++ Started j ∷ []) [] fault.Output led.at (inr (inl refl)) refl refl (λ b. refl)
        led.at.home led.at.ours in
        let both =
        goes_on_from rules entry k0 (faulted fault.Output k0) s w before es [] deeds (Started j ∷ []) [] led
        (gone_one rules entry (faulted fault.Output k0) led.stand v (before ++ es) [] (deeds ++ Started j ∷ []) [] last) in
        let same : faulted fault.Output k0 ≡ k = λ i. record k { halt = (ap (λ g. halted_by g h.halt) (sym noted.lost) ∙ sym noted.halted) i } in
        subst (λ xs. HasGoneTo rules entry k s w before xs deeds (Started j ∷ [])) (append-nil es)
        (subst (λ q. HasGoneTo rules entry q s w before (es ++ []) deeds (Started j ∷ [])) same both)

    -- the plan is refused, or memory is wanting for it
    plan_halts : (f : Fault) → HasNoted flow settings h k number draws child (Err f) (Ok tt) → HasGoneTo rules entry k s w before es deeds (Started j ∷ [])
    plan_halts f noted =
        let gone = leads.gone begin_differs act rules entry h s w before deeds number at may j known made draws command ask fit logged flow settings by x going es up follows owners k child going_is number_is ask_is (Err f) (Ok tt) noted in
        gone_one rules entry k s w before es deeds (Started j ∷ [])
        (leads.led_with begin_differs act rules entry h s w before deeds number at may j known made draws command ask fit logged flow settings by x going es up follows owners k child going_is number_is ask_is (Err f) (Ok tt) noted k.halt gone.next gone.to gone.replanned gone.goes_by
        (fault_same f k.halt noted.halted ∙ sym gone.halted)
        (only_waits_same f k.halt noted.halted noted.plan.quiet.0 ∙ sym gone.same.broken) (λ none. some_none (sym gone.halted ∙ none)))

    -- both: memory is wanting
    both_halt : (f g : Fault) → HasNoted flow settings h k number draws child (Err f) (Err g) → HasGoneTo rules entry k s w before es deeds (Started j ∷ [])
    both_halt f g noted =
        let gone = leads.gone begin_differs act rules entry h s w before deeds number at may j known made draws command ask fit logged flow settings by x going es up follows owners k child going_is number_is ask_is (Err f) (Err g) noted in
        let faults = replanned_faults rules (leads.u begin_differs act rules entry h s w before deeds number at may j known made draws command ask fit logged flow settings by x going es up follows owners) gone.next v gone.replanned in
        let t = stands.halted_by fault.OutOfMemory gone.next in
        let came : t.halted ≡ Some fault.OutOfMemory = first_came gone.next.halted fault.OutOfMemory (faults.0 ∙ none_came) in
        gone_one rules entry k s w before es deeds (Started j ∷ [])
        (leads.led_with begin_differs act rules entry h s w before deeds number at may j known made draws command ask fit logged flow settings by x going es up follows owners k child going_is number_is ask_is (Err f) (Err g) noted k.halt gone.next t gone.replanned LacksMemory
        (fault_same fault.OutOfMemory k.halt noted.halted ∙ sym came)
        (only_waits_same fault.OutOfMemory k.halt noted.halted refl ∙ sym faults.1) (λ none. some_none (sym came ∙ none)))

    pub begun_leads : (told put : Result (Unit {0}) Fault) → HasNoted flow settings h k number draws child told put → HasGoneTo rules entry k s w before es deeds (Started j ∷ [])
    begun_leads (Ok a) (Ok b) noted = all_told noted
    begun_leads (Ok a) (Err f) noted = line_lost f noted
    begun_leads (Err f) (Ok b) noted = plan_halts f noted
    begun_leads (Err f) (Err g) noted = both_halt f g noted
