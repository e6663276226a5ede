-- What is made of the answers of the kept plan, and of a check of its commands.
use Rattle.std.proofs.Common.{◌≡◌, ◌≢◌, ◌⊎◌, inl, inr, false, List, [], ◌∷◌, length, map, refl, sym, ap, ◌∙◌, Some, None, Result, Ok, Err, arith, true≢false}
use Rattle.std.specs.Prelude.{IfErr, OnOk}
use Rattle.std.specs.List.{zip}
use Rattle.smk_flow.specs.declared.job.Job.{Job}
use Rattle.smk_flow.specs.Flows.{Flow}
use Rattle.smk_trigger.specs.declared.reason.State.{State}
use Rattle.smk_pick.specs.declared.settings.Settings.{Settings}
use Rattle.smk_plan.specs.declared.fault.PlanFault.{PlanFault}
use Rattle.smk_plan.specs.declared.fault.PlanFault.TheVariants as refused
use Rattle.smk_plan_table.specs.Plans.{fault_in}
use Rattle.smk_plan_live.specs.declared.base.Base.{Base}
use Rattle.smk_plan_live.specs.Live.{LivePlan}
use Rattle.smk_plan_live.specs.declared.phase.Phase.{Phase}
use Rattle.smk_plan_live.specs.Lives.{IsLive, IsRefusedNow}
use Rattle.smk_plan_preview.specs.Faults.{is_sink}
use Rattle.smk_plan_preview.specs.Faults as preview
use Rattle.smk_plan_preview.proofs.Rounded.{check_quiet}
use Rattle.smk_report.specs.declared.fault.Fault.{Fault}
use Rattle.smk_report.specs.declared.fault.Fault.TheVariants as fault
use Rattle.smk_drive_step.specs.Crews.{is_device}
use Rattle.smk_laws_turns.specs.Resting.{IsAnswerOf, IsTold, OfCommand, OfPlan, looked_as, looked_states, refused_command}

-- ## A state for each job

one_each : (jobs : List Job) (states : List State) (phases : List Phase) → length states ≡ length jobs → length phases ≡ length jobs →
    length jobs ≡ length (map looked_as (zip states phases))
one_each [] [] phases a b = refl
one_each [] (s ∷ states) phases a b = absurd (omega (arith, a))
one_each (j ∷ jobs) [] phases a b = absurd (omega (arith, a))
one_each (j ∷ jobs) (s ∷ states) [] a b = absurd (omega (arith, b))
one_each (j ∷ jobs) (s ∷ states) (p ∷ phases) a b =
    let more = one_each jobs states phases (omega (arith, a)) (omega (arith, b)) in omega (arith, more)

pub each_looked : (live : LivePlan) → IsLive live → length live.base.jobs.jobs ≡ length (looked_states live)
each_looked live alive = one_each live.base.jobs.jobs live.plan.states live.base.phases alive.each alive.sound.phases

-- ## Faults that are none of the device or the sink

device_or : (f : Fault) → (f ≡ fault.Device) ⊎ (is_device f ≡ false)
device_or fault.Device = inl refl
device_or f = inr refl

pub is_quiet : (f : Fault) → preview.is_device f ≡ false → is_sink f ≡ false → (is_device f ≡ false) × (f ≢ fault.Output)
is_quiet f a b = (go (device_or f), λ e. true≢false (sym (ap is_sink e) ∙ b))
  where
    go : (f ≡ fault.Device) ⊎ (is_device f ≡ false) → is_device f ≡ false
    go (inl e) = absurd (true≢false (sym (ap preview.is_device e) ∙ a))
    go (inr h) = h

pub command_quiet :
    (flow : Flow) (settings : Settings) (live : LivePlan) (f : Fault) → (f ≡ fault.OutOfMemory) ⊎ (refused_command flow settings live ≡ Some f) →
    (is_device f ≡ false) × (f ≢ fault.Output)
command_quiet flow settings live f h =
    let q = check_quiet flow settings.cores (zip live.base.jobs.jobs (looked_states live)) f h in is_quiet f q.0 q.1

in_quiet : (flow : Flow) (refusal : PlanFault) → (is_device (fault_in flow refusal) ≡ false) × (is_sink (fault_in flow refusal) ≡ false)
in_quiet flow (refused.Incomplete paths) = (refl, refl)
in_quiet flow (refused.Protected p) = (refl, refl)
in_quiet flow (refused.AboveLimit rule p name asked bound) = (refl, refl)
in_quiet flow refused.OutOfMemory = (refl, refl)

pub refusal_quiet :
    (flow : Flow) (refusal : PlanFault) (f : Fault) → (f ≡ fault_in flow refusal) ⊎ (f ≡ fault.OutOfMemory) → (is_device f ≡ false) × (f ≢ fault.Output)
refusal_quiet flow refusal f (inl e) =
    let q = in_quiet flow refusal in (ap is_device e ∙ q.0, λ o. true≢false (sym (ap is_sink (sym e ∙ o)) ∙ q.1))
refusal_quiet flow refusal f (inr e) = (ap is_device e, λ o. true≢false (sym (ap is_sink (sym e ∙ o))))

-- ## Answers

pub answer_checked :
    (flow : Flow) (settings : Settings) (base : Base) (live : LivePlan) (r : Result (Unit {0}) Fault) →
    OnOk r (refused_command flow settings live ≡ None) → OnOk r (live.plan.known ≡ []) →
    IfErr r (λ f. (f ≡ fault.OutOfMemory) ⊎ (refused_command flow settings live ≡ Some f)) → IsTold settings base live → IsAnswerOf flow settings base live r
answer_checked flow settings base live (Ok u) none known bad told = (told, none, known)
answer_checked flow settings base live (Err f) none known (inl memory) told = inl memory
answer_checked flow settings base live (Err f) none known (inr some) told = inr (OfCommand told some)

pub answer_refused :
    (flow : Flow) (settings : Settings) (base : Base) (live : LivePlan) (refusal : PlanFault) (f : Fault) →
    (f ≡ fault_in flow refusal) ⊎ (f ≡ fault.OutOfMemory) → (refusal ≢ refused.OutOfMemory → IsRefusedNow settings base refusal) →
    IsAnswerOf flow settings base live (Err f)
answer_refused flow settings base live refusal f (inr memory) h = inl memory
answer_refused flow settings base live (refused.Incomplete paths) f (inl e) h = inr (OfPlan (refused.Incomplete paths) (h (λ o. not_memory o)) e)
  where
    not_memory : refused.Incomplete paths ≡ refused.OutOfMemory → ⊥
    not_memory o = cc
answer_refused flow settings base live (refused.Protected p) f (inl e) h = inr (OfPlan (refused.Protected p) (h (λ o. not_memory o)) e)
  where
    not_memory : refused.Protected p ≡ refused.OutOfMemory → ⊥
    not_memory o = cc
answer_refused flow settings base live (refused.AboveLimit rule p name asked bound) f (inl e) h =
    inr (OfPlan (refused.AboveLimit rule p name asked bound) (h (λ o. not_memory o)) e)
  where
    not_memory : refused.AboveLimit rule p name asked bound ≡ refused.OutOfMemory → ⊥
    not_memory o = cc
answer_refused flow settings base live refused.OutOfMemory f (inl e) h = inl e
