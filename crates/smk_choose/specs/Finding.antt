-- Where a job writes.
use Rattle.std.specs.Prelude.{List, [], ◌++◌, Option, Some, None, slice_get}
use Rattle.smk_pattern.specs.Shapes.{Text}
use Rattle.smk_flow.specs.declared.rule.RulePart.{RulePart}
use Rattle.smk_flow.specs.Flows.{Flow, Candidate, outputs, logs}
use Rattle.smk_choose.specs.declared.choice.Making.{Making}

-- the job of this rule, if there is such a rule
abbrev pub places_in : Flow → Making → Option RulePart → List Text
places_in flow m None = []
places_in flow m (Some part) =
    let c : Candidate = record { rule = m.rule; part = part; binding = m.binding } in
    outputs flow c ++ logs flow c

-- the outputs and then the logs of a job
abbrev pub places_by : Flow → Making → List Text
places_by flow m = places_in flow m (slice_get flow.rules m.rule)
