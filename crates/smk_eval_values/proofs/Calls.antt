-- The faults of a call of `expand`.
use Rattle.std.proofs.Common.{◌≡◌, ◌≢◌, ℕ, List, ap, refl}
use Rattle.std.specs.Prelude.{Result, Err}
use Rattle.smk_eval_values.specs.declared.expanding.ExpandFault.{ExpandFault}
use Rattle.smk_eval_values.specs.declared.expanding.ExpandFault.TheVariants.{UnknownName, UnequalZip, TooMany, OutOfMemory}
use Rattle.smk_eval_values.specs.declared.fault.ValueFault.TheVariants as value
use Rattle.smk_eval_values.specs.Values.{of_expand, as_list}

abbrev pub Called : Type 0
Called = Result (List (List ℕ)) ExpandFault

pub call_fault : (fault : ExpandFault) (m : Called) → (fault ≢ OutOfMemory → m ≡ Err fault) → of_expand fault ≢ value.OutOfMemory → as_list m ≡ Err (of_expand fault)
call_fault (UnknownName n) m e h = ap as_list (e (λ q. cc))
call_fault UnequalZip m e h = ap as_list (e (λ q. cc))
call_fault TooMany m e h = ap as_list (e (λ q. cc))
call_fault OutOfMemory m e h = absurd (h refl)
