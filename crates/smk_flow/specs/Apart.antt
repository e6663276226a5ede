-- What the checks of a workflow say fits together.
use Rattle.std.specs.Prelude.{List}
use Rattle.smk_flow.specs.declared.rule.RulePart.{RulePart}
use Rattle.smk_flow.specs.declared.rule.Clause.{Clause}
use Rattle.smk_flow.specs.declared.fault.FlowFault.{FlowFault}
use Rattle.smk_flow.specs.Checks.{IsWorkflow, IsFault}

-- Rules and clauses that make a workflow have no fault.
abbrev pub FaultMeansNone : Type 0
FaultMeansNone = (rules : List RulePart) (orders : List Clause) (fault : FlowFault) → IsWorkflow rules orders → IsFault rules orders fault → ⊥
