-- Commands that the shell waits for. The shell that runs them reads the & of `&>` and of `|&` as a sign of its own, and doesn't wait for what
-- stands before it.
use Rattle.std.specs.Prelude.{ℕ, Bool, false, ◌||◌, if◌then◌else◌, nat_eq, List, [], ◌∷◌, codes, Option, Some, None, Result, Ok, Err}
use Rattle.std.specs.List.{starts_with}
use Rattle.std.specs.Option.{option_and_then}
use Rattle.smk_flow.specs.declared.rule.RulePart.{RulePart}
use Rattle.smk_flow.specs.Flows.{Flow}
use Rattle.smk_flaws.specs.declared.flaw.FileFlaw.TheVariants.{Unsupported}
use Rattle.smk_flaws.specs.declared.flaw.Flaw.TheVariants.{File}
use Rattle.smk_flaws.specs.declared.fault.LoadFault.{LoadFault}
use Rattle.smk_flaws.specs.declared.fault.LoadFault.TheVariants.{Flawed}
use Rattle.smk_eval.specs.Faults.{and_then}

-- the word stands somewhere in the text
abbrev pub has : List ℕ → List ℕ → Bool
has word [] = false
has word (b ∷ z) = starts_with nat_eq (b ∷ z) word || has word z

-- The word that a command may not have, `&>` before `|&`. It counts wherever it stands, between quotes too.
abbrev pub refused_word : List ℕ → Option (List ℕ)
refused_word command =
    if has (codes "&>") command then Some (codes "&>") else (if has (codes "|&") command then Some (codes "|&") else None)

abbrev pub word_of : RulePart → Option (List ℕ)
word_of part = option_and_then refused_word part.command

abbrev pub unsupported : RulePart → List ℕ → LoadFault
unsupported part word = Flawed (File (Unsupported part.file part.line word))

abbrev pub unless_word : RulePart → Option (List ℕ) → Result (Unit {0}) LoadFault
unless_word part None = Ok tt
unless_word part (Some word) = Err (unsupported part word)

-- the shell waits for all of a rule's command
abbrev pub waits : RulePart → Result (Unit {0}) LoadFault
waits part = unless_word part (word_of part)

-- the same of each of these rules; the first that has such a word is told
abbrev pub all_wait : List RulePart → Result (Unit {0}) LoadFault
all_wait [] = Ok tt
all_wait (part ∷ parts) = and_then (waits part) (λ done. all_wait parts)

-- rules and clauses, where the shell waits for all commands
abbrev pub waited : Flow → Result Flow LoadFault
waited flow = and_then (all_wait flow.rules) (λ done. Ok flow)
