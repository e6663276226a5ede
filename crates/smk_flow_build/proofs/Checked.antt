-- Rules and clauses with their first fault, computed.
use Rattle.std.specs.Prelude.{◌≡◌, List, [], ◌∷◌, codes, Some, None, refl, true, false}
use Rattle.smk_pattern.specs.Shapes.{Text}
use Rattle.smk_flow.specs.declared.rule.RulePart.{RulePart}
use Rattle.smk_flow.specs.declared.rule.Clause.{Clause}
use Rattle.smk_flow.specs.declared.rule.Flag.TheVariants.{Temp, Protected, Folder}
use Rattle.smk_flow.specs.declared.fault.FlowFault.{FlowFault}
use Rattle.smk_flow.specs.Checks.{rule_in, rule_fault, contradiction}
use Rattle.smk_flow.proofs.Examples.{paired, clustering, aggregate, cat, rule, output}

-- a log without the wildcard of the outputs, and a parameter with another one
abbrev unequal_and_unknown : RulePart
unequal_and_unknown =
    record paired { logs = codes "log" ∷ []; params = record { name = []; values = codes "{x}" ∷ [] } ∷ [] }

pub unequal_first : rule_fault (rule_in []) unequal_and_unknown ≡ Some (FlowFault.UnequalWildcards (codes "Snakefile") 1 (codes "paired"))
unequal_first = refl

pub unknown_in_params : rule_fault (rule_in []) (record unequal_and_unknown { logs = [] })
    ≡ Some (FlowFault.UnknownWildcard (codes "Snakefile") 1 (codes "paired") (codes "x"))
unknown_in_params = refl

pub temp_twice : rule_fault (rule_in []) (rule false (codes "r") [] (output (Temp ∷ Temp ∷ []) (codes "o")) cat)
    ≡ Some (FlowFault.BadFlag (codes "Snakefile") 1 (codes "r") (codes "temp"))
temp_twice = refl

pub protected_folder : rule_fault (rule_in []) (rule false (codes "r") [] (output (Protected ∷ Folder ∷ []) (codes "o")) cat)
    ≡ Some (FlowFault.BadFlag (codes "Snakefile") 1 (codes "r") (codes "directory"))
protected_folder = refl

pub temp_checkpoint : rule_fault (rule_in []) (rule true (codes "r") [] (output (Temp ∷ []) (codes "o")) cat)
    ≡ Some (FlowFault.BadFlag (codes "Snakefile") 1 (codes "r") (codes "temp"))
temp_checkpoint = refl

-- the checkpoint isn't above
pub no_checkpoint : rule_fault (rule_in []) aggregate ≡ Some (FlowFault.BadFlag (codes "Snakefile") 1 (codes "aggregate") (codes "from_checkpoint"))
no_checkpoint = refl

pub with_checkpoint : rule_fault (rule_in (clustering ∷ [])) aggregate ≡ None
with_checkpoint = refl

abbrev clause : Text → Text → Clause
clause a b = record { names = a ∷ b ∷ []; file = codes "Snakefile"; line = 1 }

abbrev two_ways : List Clause
two_ways = clause (codes "a") (codes "b") ∷ clause (codes "b") (codes "a") ∷ []

pub both_ways : contradiction two_ways two_ways ≡ Some (FlowFault.ContradictoryOrder (codes "a") (codes "b"))
both_ways = refl
