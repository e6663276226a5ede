-- The faults of commands.
use Rattle.std.proofs.Common.{◌≡◌, ◌⊎◌, ◌<◌, ℕ, List, ◌∷◌, ◌+◌, length, drop, refl, ap, sym, subst, ◌∙◌, inl, inr, Option, Some, None, Result, Err}
use Rattle.std.proofs.Math.ListN.{get_or}
use Rattle.std.proofs.lemmas.List.{drop_more}
use Rattle.std.specs.List.{zip}
use Rattle.smk_flow.specs.declared.job.Job.{Job}
use Rattle.smk_flow.specs.Flows.{Flow, rule_name}
use Rattle.smk_format.specs.Commands as format
use Rattle.smk_format.specs.declared.fault.FormatFault.{FormatFault}
use Rattle.smk_format.specs.declared.fault.FormatFault.TheVariants as formatting
use Rattle.smk_trigger.specs.declared.reason.State.{State}
use Rattle.smk_report.specs.Lines.{Text}
use Rattle.smk_report.specs.declared.fault.Fault.{Fault}
use Rattle.smk_report.specs.declared.fault.Fault.TheVariants as fault
use Rattle.smk_format.specs.Refused.{threads_of, command_of, fault_at, job_fault, state_fault, or_later, command_fault, IsFormatFault}

-- ## One command

format_not : (rule : Text) (missing : Option Text) (excess : Option ℕ) (what : FormatFault) (f : Fault)
    → ((word : Text) → what ≡ formatting.UnknownField word → missing ≡ Some word) → ((bytes : ℕ) → what ≡ formatting.TooLong bytes → (missing ≡ None) × (excess ≡ Some bytes))
    → IsFormatFault rule what f → (f ≡ fault.OutOfMemory) ⊎ (fault_at rule missing excess ≡ Some f)
format_not rule missing excess (formatting.UnknownField word) f unknown long (inl e) = inr (ap (λ m. fault_at rule m excess) (unknown word refl) ∙ ap Some (sym e))
format_not rule missing excess (formatting.UnknownField word) f unknown long (inr e) = inl e
format_not rule missing excess (formatting.TooLong bytes) f unknown long (inl e) =
    let both = long bytes refl in
    inr (ap (λ m. fault_at rule m excess) both.0 ∙ ap (fault_at rule None) both.1 ∙ ap Some (sym e))
format_not rule missing excess (formatting.TooLong bytes) f unknown long (inr e) = inl e
format_not rule missing excess formatting.OutOfMemory f unknown long e = inl e

-- why the job has no command
pub command_not : (flow : Flow) (cores threads : ℕ) (job : Job) (rule : Text) (r : Result Text FormatFault) (what : FormatFault) (f : Fault)
    → rule ≡ rule_name flow job.rule → threads ≡ threads_of cores job → r ≡ Err what
    → ((word : Text) → r ≡ Err (formatting.UnknownField word) → format.missing job ≡ Some word)
    → ((bytes : ℕ) → r ≡ Err (formatting.TooLong bytes) → (format.missing job ≡ None) × (format.excess (format.command job threads) ≡ Some bytes))
    → IsFormatFault rule what f → (f ≡ fault.OutOfMemory) ⊎ (job_fault flow cores job ≡ Some f)
command_not flow cores threads job rule r what f named at is unknown long told =
    format_not (rule_name flow job.rule) (format.missing job) (format.excess (command_of cores job)) what f
    (λ word e. unknown word (is ∙ ap (λ x. Err x) e))
    (λ bytes e. subst (λ n. (format.missing job ≡ None) × (format.excess (format.command job n) ≡ Some bytes)) at (long bytes (is ∙ ap (λ x. Err x) e)))
    (subst (λ n. IsFormatFault n what f) named told)

-- ## The job of a number

pub at_place : {A : Type 0} (xs : List A) (i : ℕ) (x : A) → i < length xs → x ≡ get_or xs i x → drop i xs ≡ x ∷ drop (i + 1) xs
at_place xs i x lt e = drop_more xs i x lt ∙ ap (λ y. y ∷ drop (i + 1) xs) (sym e)

-- both are there
pub both_there : (jobs js : List Job) (states ss : List State) (i : ℕ) (job : Job) (state : State) → drop i jobs ≡ job ∷ js → drop i states ≡ state ∷ ss
    → zip (drop i jobs) (drop i states) ≡ (job, state) ∷ zip js ss
both_there jobs js states ss i job state e f = ap (λ (l : List Job). zip l (drop i states)) e ∙ ap (λ (l : List State). zip (job ∷ js) l) f

-- ## The first fault

-- the fault of the first job of those that are left
pub fault_here : (flow : Flow) (cores : ℕ) (all left rest : List (Job × State)) (job : Job) (state : State) (f : Fault)
    → command_fault flow cores all ≡ command_fault flow cores left → left ≡ (job, state) ∷ rest → (f ≡ fault.OutOfMemory) ⊎ (state_fault flow cores job state ≡ Some f)
    → (f ≡ fault.OutOfMemory) ⊎ (command_fault flow cores all ≡ Some f)
fault_here flow cores all left rest job state f h is (inl e) = inl e
fault_here flow cores all left rest job state f h is (inr e) = inr (h ∙ ap (command_fault flow cores) is ∙ ap (λ x. or_later x (command_fault flow cores rest)) e)

pub fault_later : (flow : Flow) (cores : ℕ) (all left rest : List (Job × State)) (job : Job) (state : State)
    → command_fault flow cores all ≡ command_fault flow cores left → left ≡ (job, state) ∷ rest → state_fault flow cores job state ≡ None
    → command_fault flow cores all ≡ command_fault flow cores rest
fault_later flow cores all left rest job state h is e = h ∙ ap (command_fault flow cores) is ∙ ap (λ x. or_later x (command_fault flow cores rest)) e
