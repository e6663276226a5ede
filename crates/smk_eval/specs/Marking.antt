-- The default target, where it is still to be marked.
use Rattle.std.specs.Prelude.{ℕ, Bool, true, false, List}
use Rattle.smk_flow.specs.declared.rule.RulePart.{RulePart}
use Rattle.smk_eval.specs.Statements.{first_marked}

abbrev pub marked_if : Bool → List ℕ → List RulePart → List RulePart
marked_if false file parts = parts
marked_if true file parts = first_marked file parts
