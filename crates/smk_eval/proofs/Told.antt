-- Faults of statements and of the checks.
use Rattle.std.proofs.Common.{◌≡◌, ◌≢◌, ℕ, List, Result, Ok, Err, ap, sym, ◌∙◌}
use Rattle.std.specs.Prelude.{IfErr, IsErrAnd}
use Rattle.smk_eval_values.specs.declared.fault.ValueFault.{ValueFault}
use Rattle.smk_eval_values.specs.declared.fault.ValueFault.TheVariants as of_value
use Rattle.smk_flow.specs.declared.fault.FlowFault.{FlowFault}
use Rattle.smk_flow.specs.declared.fault.FlowFault.TheVariants as of_rules
use Rattle.smk_flow.specs.declared.rule.RulePart.{RulePart}
use Rattle.smk_flow.specs.declared.rule.Clause.{Clause}
use Rattle.smk_flow.specs.Checks.{IsFault}
use Rattle.smk_flaws.specs.declared.fault.EvalFault.{EvalFault}
use Rattle.smk_flaws.specs.declared.fault.EvalFault.TheVariants as fault
use Rattle.smk_flaws.specs.Faults.{of_flow}
use Rattle.smk_eval.specs.Statements.{State, told, made}

is_told : {A : Type 0} (file : List ℕ) (line : ℕ) (rule : List ℕ) (m : Result A ValueFault) (now : A → State) (e : ValueFault) (f : EvalFault)
    → m ≡ Err e → f ≡ told file line rule e → made file line rule m now ≡ Err f
is_told file line rule m now e f h is = ap (λ r. made file line rule r now) h ∙ ap Err (sym is)

pub made_fault : {A : Type 0} (file : List ℕ) (line : ℕ) (rule : List ℕ) (m : Result A ValueFault) (now : A → State) (e : ValueFault) (f : EvalFault)
    → (e ≢ of_value.OutOfMemory → m ≡ Err e) → f ≡ told file line rule e → f ≢ fault.OutOfMemory → made file line rule m now ≡ Err f
made_fault file line rule m now e f h is known = is_told file line rule m now e f (h (λ memory. known (is ∙ ap (told file line rule) memory))) is

-- what is told of the checks is no want of memory
pub known_fault : (e : FlowFault) (f : EvalFault) → f ≡ of_flow e → f ≢ fault.OutOfMemory → e ≢ of_rules.OutOfMemory
known_fault e f is known = λ h. known (is ∙ ap of_flow h)

-- a fault of the checks that `?` carries on
pub carried_check : {A : Type 0} (rules : List RulePart) (orders : List Clause) (e : FlowFault) (s : Result A EvalFault) → IsErrAnd s (λ f. f ≡ of_flow e)
    → (e ≢ of_rules.OutOfMemory → IsFault rules orders e) → IfErr s (λ f. f ≢ fault.OutOfMemory → (g : FlowFault) × IsFault rules orders g × (f ≡ of_flow g))
carried_check rules orders e (Ok a) is h = absurd is
carried_check rules orders e (Err f) is h = λ known. (e, h (known_fault e f is known), is)
