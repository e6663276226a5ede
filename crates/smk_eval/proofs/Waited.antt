-- Commands that the shell waits for.
use Rattle.std.proofs.Common.{◌≡◌, ◌≢◌, ℕ, true, List, Some, Result, Ok, Err, ap, sym, ◌∙◌}
use Rattle.smk_flow.specs.declared.rule.RulePart.{RulePart}
use Rattle.smk_flow.specs.Flows.{Flow}
use Rattle.smk_flaws.specs.declared.fault.EvalFault.{EvalFault}
use Rattle.smk_flaws.specs.declared.fault.EvalFault.TheVariants as said
use Rattle.smk_flaws.specs.declared.fault.LoadFault.{LoadFault}
use Rattle.smk_flaws.specs.Faults.{of_eval}
use Rattle.smk_eval.specs.Faults.{and_then, from_said, is_told}
use Rattle.smk_eval.specs.Waiting.{word_of, unsupported, unless_word, waits, all_wait, waited}
use Rattle.smk_eval.proofs.Giving.{told_of}

pub waits_not : (part : RulePart) (word : List ℕ) (f : LoadFault) → Some word ≡ word_of part → f ≡ unsupported part word → waits part ≡ Err f
waits_not part word f has is = ap (unless_word part) (sym has) ∙ ap Err (sym is)

-- a statement is wrong
pub statement_wrong : (m : Result Flow EvalFault) (e : EvalFault) (f : LoadFault) → (e ≢ said.OutOfMemory → m ≡ Err e) → f ≡ of_eval e → is_told f ≡ true
    → and_then (from_said m) waited ≡ Err f
statement_wrong m e f h is told = ap (λ r. and_then (from_said r) waited) (h (told_of e f is told)) ∙ ap Err (sym is)

-- a command isn't waited for
pub command_wrong : (m : Result Flow EvalFault) (flow : Flow) (f : LoadFault) → m ≡ Ok flow → (is_told f ≡ true → all_wait flow.rules ≡ Err f) → is_told f ≡ true
    → and_then (from_said m) waited ≡ Err f
command_wrong m flow f is h told = ap (λ r. and_then (from_said r) waited) is ∙ ap (λ r. and_then r (λ done. Ok flow)) (h told)

pub commands_right : (m : Result Flow EvalFault) (flow : Flow) → m ≡ Ok flow → all_wait flow.rules ≡ Ok tt → and_then (from_said m) waited ≡ Ok flow
commands_right m flow is h = ap (λ r. and_then (from_said r) waited) is ∙ ap (λ r. and_then r (λ done. Ok flow)) h
