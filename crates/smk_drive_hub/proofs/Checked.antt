-- What a check of the kept plan answers.
use Rattle.std.proofs.Common.{◌≡◌, ◌≢◌, ◌⊎◌, inl, inr, ℕ, Bool, true, false, ◌&&◌, true≢false, List, [], ◌∷◌, zip, Option, Some, None, Result, Ok, Err, refl, sym, ap, ◌∙◌}
use Rattle.std.specs.Prelude.{is_none, IfErr, OnOk}
use Rattle.std.specs.List.{list_all}
use Rattle.smk_flow.specs.declared.job.Job.{Job}
use Rattle.smk_flow.specs.Flows.{Flow, rule_name}
use Rattle.smk_format.specs.Commands.{excess, missing}
use Rattle.smk_format.specs.Refused.{command_fault, command_of, fault_in, or_later, state_fault}
use Rattle.smk_trigger.specs.declared.reason.State.{State}
use Rattle.smk_trigger.specs.declared.reason.State.TheVariants.{Open, Dirty, Restore, Clean}
use Rattle.smk_pick.specs.declared.settings.Settings.{Settings}
use Rattle.smk_plan_live.specs.Commands.{has_command}
use Rattle.smk_plan_live.specs.declared.base.Base.{Base}
use Rattle.smk_plan_live.specs.Live.{LivePlan}
use Rattle.smk_report.specs.Lines.{Text}
use Rattle.smk_report.specs.declared.fault.Fault.{Fault}
use Rattle.smk_report.specs.declared.fault.Fault.TheVariants as fault
use Rattle.smk_drive_step.specs.Crews.{is_device}
use Rattle.smk_laws_turns.specs.Resting.{IsReplyOf, IsTold, OfCommand, looked_states, refused_command}
use Rattle.smk_laws_turns.proofs.Answering.{command_quiet}

-- ## Jobs that have commands

both : (a b : Bool) → (a && b) ≡ true → (a ≡ true) × (b ≡ true)
both true b h = (refl, h)
both false b h = absurd (true≢false (sym h))

none_in : (state : State) (rule : Text) (word : Option Text) (bytes : Option ℕ) → (is_none word && is_none bytes) ≡ true → fault_in state rule word bytes ≡ None
none_in state rule (Some word) bytes h = absurd (true≢false (sym h))
none_in state rule None (Some bytes) h = absurd (true≢false (sym h))
none_in Open rule None None h = refl
none_in (Dirty reasons) rule None None h = refl
none_in Restore rule None None h = refl
none_in Clean rule None None h = refl

none_later : (first later : Option Fault) → first ≡ None → later ≡ None → or_later first later ≡ None
none_later first later f l = ap (λ x. or_later x later) f ∙ l

none_of : (flow : Flow) (cores : ℕ) (jobs : List Job) (states : List State) → list_all (has_command cores) jobs ≡ true → command_fault flow cores (zip jobs states) ≡ None
none_of flow cores [] states h = refl
none_of flow cores (j ∷ jobs) [] h = refl
none_of flow cores (j ∷ jobs) (s ∷ states) h =
    let each = both (has_command cores j) (list_all (has_command cores) jobs) h in
    none_later (state_fault flow cores j s) (command_fault flow cores (zip jobs states))
    (none_in s (rule_name flow j.rule) (missing j) (excess (command_of cores j)) each.0) (none_of flow cores jobs states each.1)

-- nothing is refused of their commands then, whatever their states are
pub none_refused :
    (flow : Flow) (settings : Settings) (live : LivePlan) → list_all (has_command settings.cores) live.base.jobs.jobs ≡ true →
    refused_command flow settings live ≡ None
none_refused flow settings live h = none_of flow settings.cores live.base.jobs.jobs (looked_states live) h

-- ## Answers

-- a fault of it is none of the device or the sink
pub checked_quiet :
    (flow : Flow) (settings : Settings) (live : LivePlan) (r : Result (Unit {0}) Fault) →
    IfErr r (λ f. (f ≡ fault.OutOfMemory) ⊎ (refused_command flow settings live ≡ Some f)) → IfErr r (λ f. (is_device f ≡ false) × (f ≢ fault.Output))
checked_quiet flow settings live (Ok u) bad = tt
checked_quiet flow settings live (Err f) bad = command_quiet flow settings live f bad

-- what is answered once the plan was told, and its commands looked at
pub reply_checked :
    (flow : Flow) (settings : Settings) (base : Base) (live : LivePlan) (r : Result (Unit {0}) Fault) →
    OnOk r (refused_command flow settings live ≡ None) →
    IfErr r (λ f. (f ≡ fault.OutOfMemory) ⊎ (refused_command flow settings live ≡ Some f)) → IsTold settings base live → IsReplyOf flow settings base live r
reply_checked flow settings base live (Ok u) none bad told = (told, none)
reply_checked flow settings base live (Err f) none (inl memory) told = inl memory
reply_checked flow settings base live (Err f) none (inr some) told = inr (OfCommand told some)
