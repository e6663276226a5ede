use Rattle.std.proofs.Common.{◌≡◌, take}
use Rattle.smk_plan_table.specs.Parts.{shown, outputs_of}
use Rattle.smk_plan_table.proofs.outputs.outputs_of.Given as goal

abbrev pub invariant-loop-job : goal.invariant-loop-job
invariant-loop-job l = shown l.found.items ≡ outputs_of (shown (take l.job-index l.jobs))
