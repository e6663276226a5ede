-- The workflow, step by step.
use Rattle.std.proofs.Common.{◌≡◌, ◌≢◌, ◌⊎◌, inl, inr, true, false, Result, Ok, Err, ap, sym, subst, ◌∙◌}
use Rattle.smk_flow.specs.Flows.{Flow}
use Rattle.smk_flow.specs.declared.fault.FlowFault.{FlowFault}
use Rattle.smk_flow.specs.Checks.{IsWorkflow, IsFault}
use Rattle.smk_flaws.specs.declared.fault.EvalFault.{EvalFault}
use Rattle.smk_flaws.specs.declared.fault.EvalFault.TheVariants as said
use Rattle.smk_flaws.specs.declared.fault.LoadFault.{LoadFault}
use Rattle.smk_flaws.specs.Faults.{of_eval, of_flow}
use Rattle.smk_eval.specs.Faults.{is_told, is_device, and_then}
use Rattle.smk_eval.specs.Loading.{FailsAs, Gives}

pub told_of : (e : EvalFault) (f : LoadFault) → f ≡ of_eval e → is_told f ≡ true → e ≢ said.OutOfMemory
told_of e f is told = λ h. let bad : false ≡ true = sym (ap (λ x. is_told (of_eval x)) h) ∙ ap is_told (sym is) ∙ told in cc

-- ## What is said, checked

pub gives_ok : (m : Result Flow LoadFault) (flow whole : Flow) → m ≡ Ok whole → flow ≡ whole → IsWorkflow whole.rules whole.orders → (m ≡ Ok flow) × IsWorkflow flow.rules flow.orders
gives_ok m flow whole h is passes = (h ∙ ap Ok (sym is), subst (λ (w : Flow). IsWorkflow w.rules w.orders) (sym is) passes)

pub gives_checks : (m : Result Flow LoadFault) (whole : Flow) (e : EvalFault) (f : LoadFault) → m ≡ Ok whole
    → (e ≢ said.OutOfMemory → (g : FlowFault) × IsFault whole.rules whole.orders g × (e ≡ of_flow g)) → f ≡ of_eval e → is_told f ≡ true → (m ≡ Err f) ⊎ FailsAs m f
gives_checks m whole e f h checks is told = subst (λ (r : Result Flow LoadFault). (r ≡ Err f) ⊎ FailsAs r f) (sym h) (inr (e, checks (told_of e f is told), is))

-- the device didn't fail
pub calm_eval : (e : EvalFault) (f : LoadFault) → f ≡ of_eval e → is_device f ≡ false
calm_eval (said.Flawed flaw) f is = ap is_device is
calm_eval said.OutOfMemory f is = ap is_device is

-- ## Steps

-- what is said of the last of two steps is said of both
pub gives_both : {A : Type 0} (m : Result A LoadFault) (x : A) (k : A → Result Flow LoadFault) (r : Result Flow LoadFault) → m ≡ Ok x → Gives (k x) r → Gives (and_then m k) r
gives_both m x k r is h = subst (λ (v : Result Flow LoadFault). Gives v r) (ap (λ s. and_then s k) (sym is)) h

pub gives_fault : {A : Type 0} (m : Result A LoadFault) (k : A → Result Flow LoadFault) (f : LoadFault) → (is_told f ≡ true → m ≡ Err f) → is_told f ≡ true → (and_then m k ≡ Err f) ⊎ FailsAs (and_then m k) f
gives_fault m k f h told = inl (ap (λ s. and_then s k) (h told))
