use Rattle.std.proofs.Common.{◌≡◌, ◌++◌, drop}
use Rattle.smk_plan_table.specs.Parts.{shown, idle_in}
use Rattle.smk_plan_table.proofs.refusing.idle_among.Given as goal

abbrev pub invariant-loop-job : goal.invariant-loop-job
invariant-loop-job l = shown l.found.items ++ idle_in (drop l.job-index l.jobs) l.rest ≡ idle_in l.jobs l.running
